-- What is written of the JSON value of a push says the push.
use Rattle.std.proofs.Common.{◌≡◌, ℕ, ◌^◌, ◌<◌, ◌≤◌, true, false, List, Some, Result, Ok, Err, ap, ◌∙◌}
use Rattle.std.specs.Prelude.{IfOk}
use Rattle.std.specs.List.{list_all}
use Rattle.std.specs.Str.{IsUtf8}
use Rattle.json.specs.Lex.{tokens}
use Rattle.json.specs.Print.{print}
use Rattle.serde_json.specs.Data.{Data, depth}
use Rattle.serde_json.specs.Read.{read, max_depth}
use Rattle.serde_json.specs.Written.{compact_text, has_float}
use Rattle.ing_rows.specs.Texts.{is_tenant}
use Rattle.ing_rows.specs.declared.entry.Entry.{Entry}
use Rattle.ctl_feed.specs.Pushes.{Says, is_stamp, push_data, push_of}
use Rattle.ctl_feed.proofs.OneLine.{printed_clean}
use Rattle.ctl_feed.proofs.ReadBack.{read_as_push, push_depth, push_has_none}

module _ {X E : Type 0} (items : X → List ℕ) (tenant : List ℕ) (now : ℕ) (labels : List (List ℕ × List ℕ)) (entries : List Entry) where
  -- a text that is written of the value
  pub written_says : (r : Result X E) (d : Data) → d ≡ push_data tenant now labels entries
      → IfOk r (λ b. items b ≡ print (tokens (items b))) → IfOk r (λ b. IsUtf8 (items b)) → IfOk r (λ b. depth d ≤ max_depth → read (items b) ≡ Some d)
      → is_tenant tenant ≡ true → now < 2 ^ 63 → list_all is_stamp entries ≡ true
      → IfOk r (λ b. Says (items b) (push_of tenant now labels entries))
  written_says (Err e) d is compact utf8 back good time stamps = tt
  written_says (Ok b) d is compact utf8 back good time stamps =
      let shallow : depth d ≤ max_depth = rw is (push_depth tenant now labels entries) in
      record {
        read = read_as_push (items b) tenant now labels entries utf8 (back shallow ∙ ap Some is) good time stamps;
        one_line = printed_clean (items b) compact;
      }

  pub written_is : (r : Result X E) (d : Data) → d ≡ push_data tenant now labels entries → IfOk r (λ b. has_float d ≡ false → items b ≡ compact_text d)
      → IfOk r (λ b. items b ≡ compact_text (push_data tenant now labels entries))
  written_is (Err e) d is text = tt
  written_is (Ok b) d is text = let none : has_float d ≡ false = rw is (push_has_none tenant now labels entries) in text none ∙ ap compact_text is
