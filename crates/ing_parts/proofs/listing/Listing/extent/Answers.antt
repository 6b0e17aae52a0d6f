use Rattle.std.proofs.Common.{◌≡◌, ◌∙◌, ap}
use Rattle.ing_parts.specs.Listings.{extent_of, listed_of}
use Rattle.ing_parts.proofs.ListingLaws.{listing_extent}
use Rattle.ing_parts.proofs.listing.Listing.extent.Goals as goal

pub returns-clause-value : goal.returns-clause-value
returns-clause-value g c =
    let name = g.R.Receipt.name c.self.inside.kept.value.receipt in
    let bytes = g.R.Receipt.bytes c.self.inside.kept.value.receipt in
    let row = c.self.inside.kept.value.row in
    let seen : listed_of name bytes row.key ≡ c.args.self.now = c.self.view_is in
    c.extent.ensures.value ∙ ap (λ k. k.row.extent) c.deref.ensures ∙ listing_extent name bytes row c.self.invariant ∙ (λ i. extent_of (seen i).first (seen i).blocks)
