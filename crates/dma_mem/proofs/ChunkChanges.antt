-- Tables in which one chunk was taken out, changed and put back.
use Rattle.std.proofs.Common.{◌≡◌, ◌≢◌, ℕ, ◌+◌, ◌/◌, ◌%◌, ◌<◌, ◌≤◌, List, length, get_or, set, take, drop, refl, ap, sym, ◌∙◌, arith}
use Rattle.std.proofs.lemmas.Bool.{cases_eq}
use Rattle.std.proofs.lemmas.List.{get_or-set_same, get_or-set_other, set-set, length-set, length-take, length-drop}
use Rattle.dma_mem.specs.{Image.put, Image.bytes_at, inner.Blocks.CopiesBlock}
use Rattle.dma_mem.specs.inner.ChunkTable.{chunk_at, flat, image_of, PutsBytes, SameBytes, SameLengths}
use Rattle.dma_mem.proofs.ChunkTables.{within_chunks, chunk_found, group_within, others_kept, chunk_at_flat_same, length_flat_set}
use Rattle.dma_mem.proofs.{ChunkImages.image_of_put, ChunkImages.part_from, ChunkImages.read_found, ImagePut.length_put}

-- one chunk of a table was replaced by this one, and the others are as they were
pub record HasInstead (old new : List (List ℕ)) (n : ℕ) (chunk : List ℕ) : Type 0 where
  pub count : length new ≡ length old
  pub at : chunk_at new n ≡ chunk
  pub others : (p : ℕ) → p ≢ n → chunk_at new p ≡ chunk_at old p

-- the group of a chunk with bytes is in the table
pub group_found : (groups : List (List (List ℕ))) (chunks : List (List ℕ)) (n : ℕ) → flat groups ≡ chunks → 0 < length (chunk_at chunks n)
    → n / 256 < length groups
group_found groups chunks n v made = group_within groups chunks n v (within_chunks chunks n made)

-- the group from which the chunk was taken
taken_group : (groups : List (List (List ℕ))) (chunks : List (List ℕ)) (n : ℕ) (group taken : List (List ℕ)) → flat groups ≡ chunks
    → 0 < length (chunk_at chunks n) → group ≡ get_or (set groups (n / 256) taken) (n / 256) group → group ≡ taken
taken_group groups chunks n group taken v made is = is ∙ get_or-set_same groups (n / 256) taken group (group_found groups chunks n v made)

-- the lengths of all chunks stay where the new chunk is as long as the old one
pub lengths_kept : (old new : List (List ℕ)) (n : ℕ) (chunk : List ℕ) → HasInstead old new n chunk → length chunk ≡ length (chunk_at old n) → (p : ℕ)
    → length (chunk_at new p) ≡ length (chunk_at old p)
lengths_kept old new n chunk change e p = grind (arith, cases_eq)

-- bytes that were put into the chunk are put into the image
image_changed : (size : ℕ) (old new : List (List ℕ)) (n start : ℕ) (chunk bs : List ℕ) → start / 16384 ≡ n → HasInstead old new n chunk
    → chunk ≡ put (chunk_at old n) (bytes_at (start % 16384) bs) → length (chunk_at old n) ≡ 16384 → start % 16384 + length bs ≤ 16384
    → image_of size new ≡ put (image_of size old) (bytes_at start bs)
image_changed size old new n start chunk bs at change is whole fits = grind (arith, image_of_put)

-- a table after bytes were put into one of its chunks
pub record HasBytes (old new : List (List ℕ)) (start : ℕ) (bs : List ℕ) : Type 0 where
  pub len : SameLengths old new
  pub count : length new ≡ length old
  pub image : PutsBytes old new start bs

-- a chunk that is made, and its group
module _ (groups : List (List (List ℕ))) (chunks : List (List ℕ)) (n : ℕ) (group : List (List ℕ))
    (v : flat groups ≡ chunks) (made : 0 < length (chunk_at chunks n)) (is : group ≡ get_or groups (n / 256) group) where
  pub chunk_in_group : chunk_at group (n % 256) ≡ chunk_at chunks n
  chunk_in_group = chunk_found groups chunks n n group v is (group_found groups chunks n v made) refl

  pub within_group : n % 256 < length group
  within_group = within_chunks group (n % 256) (rw chunk_in_group made)

  -- a table in which the chunk was replaced
  pub replaced : (new : List (List ℕ)) (chunk : List ℕ) → new ≡ set group (n % 256) chunk → HasInstead chunks (flat (set groups (n / 256) new)) n chunk
  replaced new chunk e =
      grind (arith, group_found, within_group, length_flat_set, chunk_at_flat_same, get_or-set_same, others_kept, get_or-set_other)

  pub within_taken : (taken again : List (List ℕ)) (empty : List ℕ) → taken ≡ set group (n % 256) empty
      → again ≡ get_or (set groups (n / 256) taken) (n / 256) again → n % 256 < length again
  within_taken taken again empty out back = grind (arith, taken_group, within_group, length-set)

  -- a chunk that was taken out and put back
  pub put_back : (taken again last : List (List ℕ)) (empty chunk : List ℕ) → taken ≡ set group (n % 256) empty
      → again ≡ get_or (set groups (n / 256) taken) (n / 256) again → last ≡ set again (n % 256) chunk
      → HasInstead chunks (flat (set (set groups (n / 256) taken) (n / 256) last)) n chunk
  put_back taken again last empty chunk out back in_place =
      let same : last ≡ set group (n % 256) chunk = in_place ∙ ap (λ g. set g (n % 256) chunk) (taken_group groups chunks n again taken v made back ∙ out)
      ∙ set-set group (n % 256) empty chunk in
      rw (set-set groups (n / 256) taken last) (replaced last chunk same)

  pub has_bytes : (start : ℕ) (new : List (List ℕ)) (bs : List ℕ) → start / 16384 ≡ n → start % 16384 + length bs ≤ 16384
      → length (chunk_at group (n % 256)) ≡ 16384 → new ≡ set group (n % 256) (put (chunk_at group (n % 256)) (bytes_at (start % 16384) bs))
      → HasBytes chunks (flat (set groups (n / 256) new)) start bs
  has_bytes start new bs at fits whole e =
      let es = bytes_at (start % 16384) bs in
      let chunk = put (chunk_at chunks n) es in
      let change = replaced new chunk (e ∙ ap (λ x. set group (n % 256) (put x es)) chunk_in_group) in
      record {
        len = lengths_kept chunks _ n chunk change (length_put (chunk_at chunks n) es);
        count = change.count;
        image = λ size. image_changed size chunks _ n start chunk bs at change refl (ap length (sym chunk_in_group) ∙ whole) fits;
      }

-- bytes read from one chunk are those of the image
pub chunk_read : (size : ℕ) (chunks : List (List ℕ)) (from len : ℕ) (chunk : List ℕ) → length chunk ≡ 16384
    → SameBytes (chunk_at chunks (from / 16384)) chunk → from % 16384 + len ≤ 16384 → from + len ≤ size
    → take len (drop (from % 16384) chunk) ≡ take len (drop from (image_of size chunks))
chunk_read size chunks from len chunk whole bytes fits within =
    read_found size chunks from len (take len (drop (from % 16384) chunk))
    (omega (arith, length-take len (drop (from % 16384) chunk), length-drop (from % 16384) chunk, whole)) within
    (part_from chunks from len chunk bytes fits)

-- the destination chunk after a copy of bytes that lie in one chunk
pub record HasCopy (old : List (List ℕ)) (from to len : ℕ) (chunk : List ℕ) : Type 0 where
  pub whole : length chunk ≡ 16384
  pub kept : length chunk ≡ length (chunk_at old (to / 16384))
  pub is : (size : ℕ) → from + len ≤ size → chunk ≡ put (chunk_at old (to / 16384)) (bytes_at (to % 16384) (take len (drop from (image_of size old))))

pub has_copy : (old : List (List ℕ)) (from to len : ℕ) (source chunk : List ℕ) → length source ≡ 16384
    → SameBytes (chunk_at old (from / 16384)) source → from % 16384 + len ≤ 16384 → length chunk ≡ 16384
    → length chunk ≡ length (chunk_at old (to / 16384))
    → chunk ≡ put (chunk_at old (to / 16384)) (bytes_at (to % 16384) (take len (drop (from % 16384) source))) → HasCopy old from to len chunk
has_copy old from to len source chunk whole bytes fits long kept is = grind (arith, chunk_read)

-- with this chunk put back, the table shows a copy of the block
pub block_copied : (old new : List (List ℕ)) (from to len : ℕ) (chunk : List ℕ) → HasInstead old new (to / 16384) chunk → HasCopy old from to len chunk
    → to % 16384 + len ≤ 16384 → CopiesBlock old new from to len
block_copied old new from to len chunk change copy fits size within _ =
    let part = take len (drop from (image_of size old)) in
    image_changed size old new (to / 16384) to chunk part refl change (copy.is size within) (sym copy.kept ∙ copy.whole)
    (omega (arith, length-take len (drop from (image_of size old)), fits))
