use Rattle.std.proofs.Common.{◌≡◌, ◌++◌, [], sym, ap, ◌∙◌, append-nil}
use Rattle.std.specs.Prelude.{is_ok}
use Rattle.std.specs.FinMap.{entries}
use Rattle.std.specs.Result.{result_unwrap_or}
use Rattle.serde_json.specs.Data.{object}
use Rattle.serde_json.specs.View.{members_view, view}
use Rattle.serde_json.specs.declared.value.Value.TheVariants as value
use Rattle.serde_json.proofs.Views.{view-Object}
use Rattle.ctl_feed.specs.Labels.{labels_in, members_labels}
use Rattle.ctl_feed.proofs.CanonicalLaws.{labels_next}
use Rattle.ctl_feed.proofs.labels.Labels.of_canonical.Goals as goal

pub loop-name-preserved : goal.loop-name-preserved
loop-name-preserved c =
    let before = members_labels (members_view c.loop-name.members.entries) in
    let all : c.into_iter-name-iterator.result ≡ entries c.in_ok-labels.labels = c.into_iter-name-iterator.ensures.into_iter_gives ∙ c.pairs-name-items.ensures.pairs in
    record {
      can_next = tt;
      is_finite = tt;
      texts = ap is_ok c.in_ok-put_label.ensures;
      labels = ap (λ r. result_unwrap_or r [] ++ c.next.new.self) c.in_ok-put_label.ensures
          ∙ labels_next c.in_ok-labels.labels before c.in-Some.name.now c.in-Some.value.now c.next.new.self (ap (λ l. before ++ l) (sym c.in-Some.ensures.steps) ∙ c.loop-name.invariant.labels ∙ all)
          ∙ sym all;
    }

pub returns-clause-named : goal.returns-clause-named
returns-clause-named c =
    let made = members_labels (members_view c.loop-name.members.entries) in
    let shown : view (value.Object c.loop-name.members) ≡ object (members_view c.loop-name.members.entries) = view-Object c.loop-name.members in
    record {
      set = c.in_ok-labels.labels;
      is_set = c.in_ok-labels.ensures.label_set;
      named = c.in_ok-labels.ensures.text;
      all = ap labels_in shown ∙ sym (append-nil made) ∙ ap (λ l. made ++ l) (sym c.in-None.ensures.steps.0)
          ∙ c.loop-name.invariant.labels ∙ c.into_iter-name-iterator.ensures.into_iter_gives ∙ c.pairs-name-items.ensures.pairs;
    }
