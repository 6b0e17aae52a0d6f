use Rattle.std.proofs.Common.{rules, ◌≡◌, ◌<◌, ◌≤◌, Err, ap, subst, sym, ◌∙◌, get_or, length}
use Rattle.std.proofs.lemmas.Fn.{always_returns_same}
use Rattle.std.proofs.lemmas.List.Elements.{All-get_or}
use Rattle.std.proofs.lemmas.List.Sorted.{searchable_from_sorted}
use Rattle.std.specs.List.Sorted.{IsBinarySearchResult}
use Rattle.std.specs.declared.cmp.Ordering.TheVariants.{Equal}
use Rattle.ing_rows.specs.Rows.{StreamKey}
use Rattle.ing_diary.specs.Fronts.{front_in, stream_cmp, stream_of}
use Rattle.ing_diary.proofs.FrontLaws.{found_front, missed_front, total}
use Rattle.ing_diary.proofs.fronts.Fronts.of.Goals as goal

pub returns-in-Ok : goal.returns-in-Ok
returns-in-Ok c =
    let s : StreamKey = record { tenant = c.args.tenant.now; name = c.args.name.now } in
    let fs = c.self.inside.streams.items in
    let f = c.index.result.now in
    let place = c.in-Ok.place in
    let found = c.binary_search_by-found.ensures.position (λ f. stream_cmp (stream_of f) s) (always_returns_same _ (λ a r. r ≡ stream_cmp (stream_of a.0.now) s) _ (search rules)) in
    let equal : stream_cmp (stream_of (get_or fs place f)) s ≡ Equal = subst (λ l. stream_cmp (stream_of (get_or l place f)) s ≡ Equal) c.deref.ensures.value ((rw c.in-Ok.is at found) f) in
    let within : place < length fs = subst (λ l. place < length l) c.deref.ensures.value c.in-Ok.ensures.bound in
    let one : front_in fs (stream_of f) ≡ f.front =
    subst (λ x. front_in fs (stream_of x) ≡ x.front) (sym c.index.ensures) (All-get_or (λ x. front_in fs (stream_of x) ≡ x.front) fs place f within c.self.invariant.one) in
    found_front fs s f one (ap (λ x. stream_cmp (stream_of x) s) c.index.ensures ∙ equal) ∙ ap (λ l. front_in l s) c.self.view_is

pub returns-in-Err : goal.returns-in-Err
returns-in-Err c =
    let s : StreamKey = record { tenant = c.args.tenant.now; name = c.args.name.now } in
    let fs = c.self.inside.streams.items in
    let place = c.in-Err.field-0 in
    let found = c.binary_search_by-found.ensures.position (λ f. stream_cmp (stream_of f) s) (always_returns_same _ (λ a r. r ≡ stream_cmp (stream_of a.0.now) s) _ (search rules)) in
    let missed : IsBinarySearchResult (λ f. stream_cmp (stream_of f) s) fs (Err place) = subst (λ l. IsBinarySearchResult (λ f. stream_cmp (stream_of f) s) l (Err place)) c.deref.ensures.value (rw c.in-Err.is at found) in
    let within : place ≤ length fs = subst (λ l. place ≤ length l) c.deref.ensures.value c.in-Err.ensures.bound in
    missed_front fs s place (missed (searchable_from_sorted total stream_of fs s c.self.invariant.sorted)) within ∙ ap (λ l. front_in l s) c.self.view_is
