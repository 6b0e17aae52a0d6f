-- Whether a clock is asked what to do between lines.
use Rattle.std.specs.Prelude.{List, [], ◌==◌, if◌then◌else◌, Option, Some}
use Rattle.ing_limits.specs.Settings.{StoreSettings}
use Rattle.ing_session.specs.declared.ticks.Tick.{Tick}

-- What is known of what a clock has said, by what it tells itself: nothing at all where the settings have no period, for it is not asked.
abbrev pub heard_by : StoreSettings → Option (List Tick) → Option (List Tick)
heard_by settings said = if settings.flush_check_period == 0 then Some [] else said
