-- Tags that rise fall into buckets that rise.
use Rattle.std.proofs.Common.{◌≡◌, ℕ, ◌*◌, ◌/◌, ◌^◌, ◌<◌, ◌≤◌, List, length, get_or, arith}
use Rattle.std.specs.List.Sorted.{IsNonDecreasing}
use Rattle.std.proofs.lemmas.List.{get_or-map, length-map}
use Rattle.std.proofs.Math.Nat.{mul-le-mul_right}
use Rattle.key_table.specs.declared.entry.Entry.{Entry}
use Rattle.key_table.specs.Hash.{bucket_of}
use Rattle.key_table.specs.Cuts.{IsCut}
use Rattle.key_table.specs.Kept.{tags_in}

quotient_rises : (k a b : ℕ) → 0 < k → a ≤ b → a / k ≤ b / k
quotient_rises k a b some up = grind arith

bucket_rises : (buckets a b : ℕ) → a ≤ b → bucket_of buckets a ≤ bucket_of buckets b
unfolding bucket_of
bucket_rises buckets a b up = quotient_rises (2 ^ 32) (a * buckets) (b * buckets) (omega arith) (mul-le-mul_right buckets up)

pub tag_at : (entries : List Entry) (k : ℕ) (d : Entry) → k < length entries → get_or (tags_in entries) k 0 ≡ (get_or entries k d).tag
tag_at entries k d within = get_or-map (λ (e : Entry). e.tag) entries k d 0 within

-- the walk stands at the end
pub cut_at_end : (buckets : ℕ) (entries : List Entry) (bucket place : ℕ) → place ≡ length entries → ((k : ℕ) → k < place → bucket_of buckets (get_or (tags_in entries) k 0) < bucket) → IsCut buckets (tags_in entries) bucket place
cut_at_end buckets entries bucket place end before =
    let len : length (tags_in entries) ≡ length entries = simp length-map in
    record { within = omega arith; before = before; behind = λ k from within. absurd (omega arith) }

-- the walk stands at a tag that does not fall into an earlier bucket
pub cut_here : (buckets : ℕ) (entries : List Entry) (bucket place : ℕ) → IsNonDecreasing (tags_in entries) → place < length entries → bucket ≤ bucket_of buckets (get_or (tags_in entries) place 0) → ((k : ℕ) → k < place → bucket_of buckets (get_or (tags_in entries) k 0) < bucket) → IsCut buckets (tags_in entries) bucket place
cut_here buckets entries bucket place up inside here before =
    let len : length (tags_in entries) ≡ length entries = simp length-map in
    record {
      within = omega arith;
      before = before;
      behind = λ k from within.
          let more : bucket_of buckets (get_or (tags_in entries) place 0) ≤ bucket_of buckets (get_or (tags_in entries) k 0) =
          bucket_rises buckets _ _ (up place k 0 from within) in
          omega arith;
    }
