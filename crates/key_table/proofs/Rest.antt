-- The walk over entries, one at a time.
use Rattle.std.proofs.Common.{Bor, ◌≡◌, ℕ, suc, ◌+◌, ◌-◌, ◌<◌, List, ◌∷◌, length, drop, get_or, Bool, true, false, cond, ◌&&◌, Option, Some, None, refl, sym, ap, ◌∙◌, subst, arith, length-take, length-drop}
use Rattle.std.specs.Str.{bytes_eq}
use Rattle.std.specs.List.{cons_option, slice_range}
use Rattle.std.proofs.lemmas.List.{get_or-take, get_or-drop}
use Rattle.std.proofs.lemmas.Bool.{false≢true}
use Rattle.key_table.specs.declared.entry.Entry.{Entry}
use Rattle.key_table.specs.declared.bucket.Bucket.{Bucket}
use Rattle.key_table.specs.Bucket.{IsBucket}
use Rattle.key_table.specs.Kept.{AreEntries, IsEntry, key_in, pairs_in}
use Rattle.key_table.specs.Pairs.{shows, near_of}

rest_are : (texts : List ℕ) (entries : List Entry) (first : Entry) (others : List Entry) → entries ≡ first ∷ others → AreEntries texts entries → AreEntries texts others
rest_are texts entries first others is all k d within =
    let P : List Entry → Type 0 = λ es. IsEntry texts (get_or es (suc k) d) in
    subst P is (all (suc k) d (let len : length entries ≡ length (first ∷ others) = ap length is in omega arith))

-- what is left of a bucket is one
pub rest_is : (texts key : List ℕ) (bucket : Bucket) (first : Entry) (others : Bor (List Entry)) → bucket.entries.now ≡ first ∷ others.now → IsBucket texts key bucket → IsBucket texts key (record { entries = others; sure = bucket.sure })
rest_is texts key bucket first others is bucket_is = record {
  all = rest_are texts bucket.entries.now first others.now is bucket_is.all;
  sure = λ is_sure k d within. subst (λ (es : List Entry). key_in texts (get_or es (suc k) d) ≡ key) is (bucket_is.sure is_sure (suc k) d (let len : length bucket.entries.now ≡ length (first ∷ others.now) = ap length is in omega arith));
}

-- a part of the entries
pub part_are : (texts : List ℕ) (entries : List Entry) (start end : ℕ) → AreEntries texts entries → AreEntries texts (slice_range entries start end)
part_are texts entries start end all k d within =
    let inside : k < length entries - start = omega (arith, within, length-take (end - start) (drop start entries), length-drop start entries) in
    let shorter : k < end - start = omega (arith, within, length-take (end - start) (drop start entries)) in
    let is : get_or (slice_range entries start end) k d ≡ get_or entries (start + k) d = get_or-take (end - start) (drop start entries) k d shorter ∙ get_or-drop start entries k d in
    subst (IsEntry texts) (sym is) (all (start + k) d (omega arith))

passed_by : (b : Bool) (place : ℕ) (left : List ℕ) → b ≡ false → left ≡ cons_option (cond b (Some place) None) left
passed_by true place left not = absurd (false≢true (sym not))
passed_by false place left not = refl

-- an entry that is not near gives no place
pub passed_over : (texts key : List ℕ) (shown : Option ℕ) (entries : List Entry) (first : Entry) (others : List Entry) → entries ≡ first ∷ others → (shows first.needed shown && bytes_eq (key_in texts first) key) ≡ false → near_of key shown (pairs_in texts others) ≡ near_of key shown (pairs_in texts entries)
passed_over texts key shown entries first others is differs = rw is (passed_by (shows first.needed shown && bytes_eq (key_in texts first) key) first.place (near_of key shown (pairs_in texts others)) differs)
