-- What is written one after another, and that it fits its fields.
use Rattle.std.proofs.Common.{◌≡◌, ◌≢◌, ℕ, zero, suc, ◌+◌, ◌<◌, ◌≤◌, ◌^◌, List, [], ◌∷◌, ◌++◌, length, get_or, take, All, refl, sym, ap, subst, ◌∙◌, arith, add-one, append_assoc, length-append}
use Rattle.std.specs.List.{flat_map, AllByRecursion}
use Rattle.std.proofs.lemmas.List.Elements.{All-from_recursion}
use Rattle.std.proofs.lemmas.List.{append-nil}
use Rattle.std.proofs.lemmas.List.Concat.{flat_map-cons}
use Rattle.ing_chunk.specs.declared.numbered.Numbered.{Numbered}
use Rattle.ing_chunk.specs.Chunks.{in_blocks}
use Rattle.ing_chunk.specs.Parts.{IsWithin, AreParts}
use Rattle.ing_codec.specs.declared.version.Version.{Version}
use Rattle.ing_codec.specs.ChunkObjects.{ChunkObject, head_text, block_text, IsNumbered, IsBlock, IsObject}
use Rattle.ing_codec.specs.Writable.{IsWritable, IsBlockWritable, IsLent}

flat_map_suc : {X : Type 0} (f : X → List ℕ) (xs : List X) (i : ℕ) (d : X) → i < length xs → flat_map f (take (suc i) xs) ≡ flat_map f (take i xs) ++ f (get_or xs i d)
flat_map_suc f [] i d lt = absurd (omega arith)
flat_map_suc f (x ∷ xs) zero d lt = flat_map-cons f x [] ∙ append-nil (f x)
flat_map_suc f (x ∷ xs) (suc i) d lt =
    flat_map-cons f x (take (suc i) xs)
    ∙ ap (λ (t : List ℕ). f x ++ t) (flat_map_suc f xs i d (omega arith))
    ∙ sym (append_assoc (f x) (flat_map f (take i xs)) (f (get_or xs i d)))
    ∙ ap (λ (t : List ℕ). t ++ f (get_or xs i d)) (sym (flat_map-cons f x (take i xs)))

-- one element more
flat_map_more : {X : Type 0} (f : X → List ℕ) (xs : List X) (i : ℕ) (d : X) → i < length xs → flat_map f (take (i + 1) xs) ≡ flat_map f (take i xs) ++ f (get_or xs i d)
flat_map_more f xs i d lt = rw add-one (flat_map_suc f xs i d lt)

-- and so goes what a loop has written
pub written_more : {X : Type 0} (f : X → List ℕ) (xs : List X) (i : ℕ) (x : X) (old front out new : List ℕ) → i < length xs → x ≡ get_or xs i x → out ≡ old ++ (front ++ flat_map f (take i xs)) → new ≡ out ++ f x
    → new ≡ old ++ (front ++ flat_map f (take (i + 1) xs))
written_more f xs i x old front out new lt is so_far more =
    let last : f x ≡ f (get_or xs i x) = ap f is in
    rw (more, so_far, last, flat_map_more f xs i x lt) (simp append_assoc)

pub blocks_more : (v : Version) (o p : ChunkObject) (i : ℕ) (b : List Numbered) (out new : List ℕ) → p ≡ o → i < length p.blocks → b ≡ get_or p.blocks i b → out ≡ head_text v o ++ flat_map (block_text v o.first) (take i o.blocks)
    → new ≡ out ++ block_text v p.first b → new ≡ head_text v o ++ flat_map (block_text v o.first) (take (i + 1) o.blocks)
blocks_more v o p i b out new same lt is so_far more =
    let inside : i < length o.blocks = subst (λ (q : ChunkObject). i < length q.blocks) same lt in
    let there : b ≡ get_or o.blocks i b = subst (λ (q : ChunkObject). b ≡ get_or q.blocks i b) same is in
    let goes : new ≡ out ++ block_text v o.first b = subst (λ (q : ChunkObject). new ≡ out ++ block_text v q.first b) same more in
    written_more (block_text v o.first) o.blocks i b (head_text v o) [] out new inside there so_far goes

-- ---- what fits

nonempty : (b : List Numbered) → b ≢ [] → 0 < length b
nonempty [] h = absurd (h refl)
nonempty (e ∷ es) h = omega arith

pub blocks_few : (from : ℕ) (bs : List (List Numbered)) → AreParts from bs → length bs ≤ length (in_blocks bs)
blocks_few from [] h = omega arith
blocks_few from (b ∷ bs) h = omega (arith, nonempty b h.0.some, blocks_few (from + length b) bs h.1, length-append b (in_blocks bs))

entries_writable : (first from count : ℕ) (es : List Numbered) → first ≤ from → from + count ≤ first + 2 ^ 32 → AllByRecursion (IsWithin from count) es → AllByRecursion (IsWritable first) es
entries_writable first from count [] low high h = tt
entries_writable first from count (e ∷ es) low high h =
    (record { low = omega (arith, h.0.low); high = omega (arith, h.0.high); line = omega (arith, h.0.line) }, entries_writable first from count es low high h.1)

blocks_writable : (first from : ℕ) (bs : List (List Numbered)) → first ≤ from → from + length (in_blocks bs) < first + 2 ^ 32 → AreParts from bs → AllByRecursion (IsBlockWritable first) bs
blocks_writable first from [] low high h = tt
blocks_writable first from (b ∷ bs) low high h =
    let len = length-append b (in_blocks bs) in (
      record {
        entries = All-from_recursion (IsWritable first) b (entries_writable first from (length b) b low (omega (arith, len)) h.0.within);
        count = omega (arith, len);
      },
      blocks_writable first (from + length b) bs (omega arith) (omega (arith, len)) h.1,
    )

-- blocks that follow one another from a first number on, with fewer than 2^32 entries, can be written
pub all_writable : (first : ℕ) (bs : List (List Numbered)) → AreParts first bs → length (in_blocks bs) < 2 ^ 32 → All (IsBlockWritable first) bs
all_writable first bs parts few = All-from_recursion (IsBlockWritable first) bs (blocks_writable first first bs (omega arith) (omega (arith, few)) parts)

pub are_writable : (o : ChunkObject) → IsNumbered o → All (IsBlockWritable o.first) o.blocks
are_writable o h = all_writable o.first o.blocks h.parts h.few

pub count_fits : (o : ChunkObject) → IsNumbered o → length o.blocks < 2 ^ 32
count_fits o h = omega (arith, blocks_few o.first o.blocks h.parts, h.few)

-- ---- what holds of each element that was gone through

all_suc : {X : Type 0} (P : X → Type 0) (xs : List X) (i : ℕ) (d : X) → i < length xs → AllByRecursion P (take i xs) → P (get_or xs i d) → AllByRecursion P (take (suc i) xs)
all_suc P [] i d lt h p = absurd (omega arith)
all_suc P (x ∷ xs) zero d lt h p = (p, tt)
all_suc P (x ∷ xs) (suc i) d lt h p = (h.0, all_suc P xs i d (omega arith) h.1 p)

pub all_through : {X : Type 0} (P : X → Type 0) (xs : List X) (i : ℕ) (x : X) → i < length xs → x ≡ get_or xs i x → AllByRecursion P (take i xs) → P x → AllByRecursion P (take (i + 1) xs)
all_through P xs i x lt is h p = rw add-one (all_suc P xs i x lt h (subst P is p))

pub all_gone : {X : Type 0} (P : X → Type 0) (xs : List X) (n : ℕ) → length xs ≤ n → AllByRecursion P (take n xs) → AllByRecursion P xs
all_gone P [] n le h = tt
all_gone P (x ∷ xs) zero le h = absurd (omega arith)
all_gone P (x ∷ xs) (suc n) le h = (h.0, all_gone P xs n (omega arith) h.1)

pub blocks_through : (o p : ChunkObject) (i : ℕ) (b : List Numbered) → p ≡ o → i < length p.blocks → b ≡ get_or p.blocks i b → AllByRecursion IsBlock (take i o.blocks) → IsBlock b → AllByRecursion IsBlock (take (i + 1) o.blocks)
blocks_through o p i b same lt is h block =
    let inside : i < length o.blocks = subst (λ (q : ChunkObject). i < length q.blocks) same lt in
    let there : b ≡ get_or o.blocks i b = subst (λ (q : ChunkObject). b ≡ get_or q.blocks i b) same is in
    all_through IsBlock o.blocks i b inside there h block

pub object_of : (o p : ChunkObject) (i : ℕ) → p ≡ o → IsLent p → length p.blocks ≤ i → AllByRecursion IsBlock (take i o.blocks) → IsObject o
object_of o p i same lent le h =
    let known : IsLent o = subst (λ (q : ChunkObject). IsLent q) same lent in
    let all : length o.blocks ≤ i = subst (λ (q : ChunkObject). length q.blocks ≤ i) same le in
    record { tenant = known.tenant; name = known.name; numbered = known.numbered; blocks = all_gone IsBlock o.blocks i all h }

-- three parts written one after another
pub three_written : (old a b c o1 o2 o3 : List ℕ) → o1 ≡ old ++ a → o2 ≡ o1 ++ b → o3 ≡ o2 ++ c → o3 ≡ old ++ (a ++ (b ++ c))
three_written old a b c o1 o2 o3 e1 e2 e3 = rw (e3, e2, e1) (simp append_assoc)

-- and four
pub four_written : (old a b c d o1 o2 o3 o4 : List ℕ) → o1 ≡ old ++ a → o2 ≡ o1 ++ b → o3 ≡ o2 ++ c → o4 ≡ o3 ++ d → o4 ≡ old ++ (a ++ (b ++ (c ++ d)))
four_written old a b c d o1 o2 o3 o4 e1 e2 e3 e4 = rw (e4, e3, e2, e1) (simp append_assoc)
