-- Limits on labels, and what is told of labels that are refused.
use Rattle.ing_labels.specs.declared.fault.LabelLimits.{LabelLimits}
use Rattle.ing_labels.specs.declared.fault.LabelFault.{LabelFault}
use Rattle.ing_labels.specs.Faults as label_faults
use Rattle.ing_rows.specs.declared.rules.Rules.{Rules}
use Rattle.serde_json.specs.Data.{Data}
use Rattle.ing_session.specs.Replies.{fault_data}

-- the limits among a tenant's rules
abbrev pub limits_of : Rules → LabelLimits
limits_of rules = record { names = rules.max_label_names; name_bytes = rules.max_label_name_length; value_bytes = rules.max_label_value_length }

-- the reply to a stream whose labels are refused
abbrev pub label_fault : LabelFault → Data
label_fault fault = fault_data (label_faults.refusal_of fault) (label_faults.fault_place fault)
