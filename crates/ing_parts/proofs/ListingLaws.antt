-- The chunk that the bytes of a listing spell.
use Rattle.std.proofs.Common.{◌≡◌, ℕ, List, sym, ap, ◌∙◌}
use Rattle.ing_store.specs.RowObjects.{RowObject}
use Rattle.ing_parts.specs.Listings.{IsListing, IsSpelt, listed_of, extent_of, tenant_in, stream_in, first_in, blocks_in}

module _ (name : List ℕ) (bytes : List ℕ) (row : RowObject) (h : IsListing bytes row) where
  -- the row tells the extent of what is listed
  pub listing_extent : row.extent ≡ extent_of (listed_of name bytes row.key).first (listed_of name bytes row.key).blocks
  listing_extent = h.extent ∙ (λ i. extent_of (first_in (sym h.read i)) (blocks_in (sym h.read i)))

  -- its tenant
  pub listing_tenant : row.tenant ≡ (listed_of name bytes row.key).tenant
  listing_tenant = h.tenant ∙ ap tenant_in (sym h.read)

  -- and its stream
  pub listing_stream : row.name ≡ (listed_of name bytes row.key).stream
  listing_stream = h.stream ∙ ap stream_in (sym h.read)

  -- it is the chunk that the bytes spell
  pub listing_spelt : IsSpelt (listed_of name bytes row.key)
  listing_spelt = record {
    object = h.object;
    is = h.is;
    read = h.read;
    tenant = ap tenant_in h.read;
    stream = ap stream_in h.read;
    first = ap first_in h.read;
    blocks = ap blocks_in h.read;
    key = h.key;
  }
