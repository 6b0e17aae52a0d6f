use Rattle.std.proofs.Common.{◌≡◌, ◌∙◌, ap}
use Rattle.ing_parts.specs.Listings.{listed_of}
use Rattle.ing_parts.proofs.ListingLaws.{listing_stream}
use Rattle.ing_parts.proofs.listing.Listing.labels.Goals as goal

pub returns : goal.returns
returns g c =
    let name = g.R.Receipt.name c.self.inside.kept.value.receipt in
    let bytes = g.R.Receipt.bytes c.self.inside.kept.value.receipt in
    let row = c.self.inside.kept.value.row in
    let seen : listed_of name bytes row.key ≡ c.args.self.now = c.self.view_is in
    c.labels.ensures ∙ ap (λ k. k.row.name) c.deref.ensures ∙ listing_stream name bytes row c.self.invariant ∙ ap (λ l. l.stream) seen
