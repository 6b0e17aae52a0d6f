-- What the chunks of a stream keep beside themselves.
use Rattle.std.specs.Prelude.{◌≡◌, ◌*◌, ◌<◌, ◌≤◌, ◌^◌, true, is_some, sum_by, vec_len, vec_capacity}
use Rattle.ing_chunk.specs.Chunks.{ChunksContents, AreChunks, chunk_to_grow, count_in, size_of_chunk}
use Rattle.ing_chunk.specs.declared.chunks.Chunks.TheInside.{Inside}

abbrev pub chunks_of : Inside → ChunksContents
chunks_of c = record { next = c.next; waiting = c.waiting.items; growing = c.growing }

-- what is kept equals what computing it afresh gives, and there is room for the growing chunk among those that wait
pub record AreKept (c : Inside) : Type 0 where
  pub chunks : AreChunks (chunks_of c)
  pub count : c.waiting_count ≡ sum_by count_in c.waiting.items
  pub size : c.waiting_size ≡ sum_by size_of_chunk c.waiting.items
  pub few : c.waiting_count ≤ (chunk_to_grow (chunks_of c)).first
  pub small : c.waiting_size ≤ c.waiting_count * 2 ^ 65
  pub room : is_some c.growing ≡ true → vec_len c.waiting < vec_capacity c.waiting
