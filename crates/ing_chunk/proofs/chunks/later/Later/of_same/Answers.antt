use Rattle.std.proofs.Common.{◌≡◌, [], ◌∷◌, refl, ap, ◌∙◌, arith, true, is_none}
use Rattle.std.specs.Prelude.{sum_by}
use Rattle.std.specs.Option.{unwrap_or}
use Rattle.std.proofs.lemmas.Grind.{common_steps}
use Rattle.std.proofs.lemmas.List.Sums.{sum_by-cons}
use Rattle.ing_chunk.specs.Chunks.{ChunkContents, chunk_to_grow, count_in, size_of_chunk}
use Rattle.ing_chunk.specs.KeptChunks.{chunks_of}
use Rattle.ing_chunk.proofs.Behind.{continues_growing, continues_sealed}
use Rattle.ing_chunk.proofs.Taken.{next_of}
use Rattle.ing_chunk.proofs.chunks.later.Later.of_same.Goals as goal

pub returns : goal.returns
returns c =
    let d = chunks_of c.others.inside in
    let kept = c.others.invariant in
    let first : d.waiting ≡ c.remove-tail.result ∷ c.remove-tail.new.self.items = grind (arith, common_steps, c.remove-tail.ensures.value, c.remove-tail.ensures.by_index.2) in
    record {
      continues = continues_sealed c.args.rules.now c.args.now c.args.size c.args.entries.items c.args.next d c.add_behind.new.self c.from_number-others.result c.others.view_is c.from_number-others.ensures _ refl c.requires.below kept.chunks c.in_ok-add_behind.ensures c.remove-tail.result c.remove-tail.new.self.items first refl refl refl;
      counted = record {
        count = λ _. kept.count ∙ ap (sum_by count_in) first ∙ sum_by-cons count_in c.remove-tail.result c.remove-tail.new.self.items;
        size = λ _. kept.size ∙ ap (sum_by size_of_chunk) first ∙ sum_by-cons size_of_chunk c.remove-tail.result c.remove-tail.new.self.items;
        small = kept.small;
      };
    }

pub returns-then-is_empty : goal.returns-then-is_empty
returns-then-is_empty c =
    let d = chunks_of c.others.inside in
    let kept = c.others.invariant in
    let none : d.waiting ≡ [] = grind (arith, common_steps) in
    let tail : c.unwrap_or.result ≡ chunk_to_grow d = c.unwrap_or.ensures ∙ ap (unwrap_or d.growing) c.begin.ensures in
    let open_yet : is_none c.unwrap_or.result.reason ≡ true = ap (λ (x : ChunkContents). is_none x.reason) tail ∙ ap is_none (next_of d kept.chunks).open_yet in
    record {
      continues = continues_growing c.args.rules.now c.args.now c.args.size c.args.entries.items c.args.next d c.add_behind.new.self c.from_number-others.result c.others.view_is c.from_number-others.ensures _ refl c.requires.below kept.chunks c.in_ok-add_behind.ensures none tail;
      counted = record {
        count = λ sealed. absurd (cc);
        size = λ sealed. absurd (cc);
        small = omega arith;
      };
    }
