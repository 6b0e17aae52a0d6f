use Rattle.std.proofs.Common.{◌≡◌, subst}
use Rattle.ing_parts.specs.Listings.{IsSpelt, listed_of}
use Rattle.ing_parts.proofs.ListingLaws.{listing_spelt}
use Rattle.ing_parts.proofs.listing.Listing.is_spelt.Goals as goal

pub returns : goal.returns
returns g c =
    let name = g.R.Receipt.name c.self.inside.kept.value.receipt in
    let bytes = g.R.Receipt.bytes c.self.inside.kept.value.receipt in
    let row = c.self.inside.kept.value.row in
    let seen : listed_of name bytes row.key ≡ c.args.self.now = c.self.view_is in
    subst IsSpelt seen (listing_spelt name bytes row c.self.invariant)
