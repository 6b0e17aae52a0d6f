use Rattle.std.proofs.Common.{ℕ, List, [], Option, append-nil}
use Rattle.std.specs.Prelude.{Result, Ok, Err, OnOk, OnErr}
use Rattle.std.specs.Io.KnownBytes.{Appends}
use Rattle.ing_session.specs.Endings.{ending_text}
use Rattle.ing_session.specs.Fronts.{AppendsFront}
use Rattle.ing_session.proofs.concluding.conclude.Goals as goal

-- all of a text is a front of it
either_way : {T E : Type 0} (r : Result T E) (old new : Option (List ℕ)) (text : List ℕ) → OnOk r (Appends old new text) → OnErr r (AppendsFront old new text) → AppendsFront old new text
either_way (Ok done) old new text whole front = record { front = text; rest = []; whole = append-nil text; added = whole }
either_way (Err error) old new text whole front = front

pub returns-in-Err-clause-line : goal.returns-in-Err-clause-line
returns-in-Err-clause-line g c =
    let contents = g.E.Write.contents in
    rw c.in-Err.is (either_way c.write_ending.result (contents c.args.errors.now) (contents c.write_ending.new.errors) (ending_text c.in-Err.ending) c.write_ending.ensures.whole c.write_ending.ensures.front)
