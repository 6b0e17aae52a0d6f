use Rattle.std.proofs.Common.{◌≡◌, ℕ, Bool, List, Option, Some, None, true, false, refl, ap, cond, sym, ◌∙◌, bytes_eq}
use Rattle.std.proofs.lemmas.Slice.Eq.{bytes_eq-Decides}
use Rattle.ing_labels.specs.Canonical.{canonical_of}
use Rattle.ing_shard.specs.Names.{find_in}
use Rattle.ing_shard.proofs.tenants.TenantStreams.list.Goals as goal

undone_case : (b : Bool) (x o : Option ℕ) → (b ≡ true → o ≡ None) → cond b None (cond b x o) ≡ o
undone_case true x o none = sym (none refl)
undone_case false x o none = refl

-- a name that was not listed is taken back
undone : (f : List ℕ → Option ℕ) (name n : List ℕ) (x : Option ℕ) → f name ≡ None → cond (bytes_eq name n) None (cond (bytes_eq name n) x (f n)) ≡ f n
undone f name n x none = undone_case (bytes_eq name n) x (f n) (λ same. ap f (sym ((bytes_eq-Decides name n).0 same)) ∙ none)

pub returns-in-Err-clause-err_names : goal.returns-in-Err-clause-err_names
returns-in-Err-clause-err_names c n =
    let name = canonical_of c.args.labels.now in
    let old = c.args.self.now.by_name in
    c.remove.ensures n
    ∙ (λ i. cond (bytes_eq (c.name.ensures.text i) n) None (c.in_ok-insert.ensures.ok n i))
    ∙ undone (find_in old) name n (Some c.args.number) c.requires.free
