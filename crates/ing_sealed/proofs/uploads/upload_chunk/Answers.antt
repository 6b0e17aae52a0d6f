use Rattle.std.proofs.Common.{sym, ap, ◌∙◌}
use Rattle.sha2.specs.Sha256.{sha256}
use Rattle.ing_codec.specs.Versions.{written_version}
use Rattle.ing_parts.specs.Listings.{first_in, blocks_in, extent_of}
use Rattle.ing_sealed.proofs.ExtentLaws.{extent_is}
use Rattle.ing_sealed.proofs.uploads.upload_chunk.Goals as goal

pub of-requires : goal.of-requires
of-requires g c =
    let spelt = c.in_ok-uploaded.ensures.bytes in
    record {
      object = c.of_chunk.result;
      is = c.in_ok-uploaded.ensures.object;
      read = c.chunks_are_exact.ensures.each _ c.of_chunk.result c.in_ok-uploaded.ensures.object (record { version = written_version; is = spelt });
      tenant = ap (λ r. r.tenant) c.in_ok-row.ensures.row ∙ ap (λ o. o.tenant) (sym c.of_chunk.ensures);
      stream = ap (λ r. r.name) c.in_ok-row.ensures.row ∙ ap (λ o. o.name) (sym c.of_chunk.ensures);
      extent = extent_is c.args.chunk.now _ c.requires.whole c.in_ok-row.ensures.extent ∙ ap (λ o. extent_of o.first o.blocks) (sym c.of_chunk.ensures);
      key = ap (λ r. r.key) c.in_ok-row.ensures.row ∙ c.in_ok-uploaded.ensures.key ∙ ap sha256 (sym spelt);
    }

pub returns-clause-chunk : goal.returns-clause-chunk
returns-clause-chunk g c =
    let read = c.chunks_are_exact.ensures.each _ c.of_chunk.result c.in_ok-uploaded.ensures.object (record { version = written_version; is = c.in_ok-uploaded.ensures.bytes }) in (
      ap (λ l. l.first) c.in_ok-listing.ensures ∙ ap first_in read ∙ ap (λ o. o.first) c.of_chunk.ensures,
      ap (λ l. l.blocks) c.in_ok-listing.ensures ∙ ap blocks_in read ∙ ap (λ o. o.blocks) c.of_chunk.ensures,
    )
