-- Texts that grow at their end keep the keys that stand in them.
use Rattle.std.proofs.Common.{◌≡◌, ℕ, suc, ◌+◌, ◌-◌, ◌≤◌, List, [], ◌∷◌, ◌++◌, length, drop, get_or, refl, sym, ap, ◌∙◌, subst, arith, length-append, length-drop, inl, inr}
use Rattle.std.specs.List.{slice_range}
use Rattle.std.proofs.lemmas.List.{drop-append-le, take-append-le, map-append}
use Rattle.std.proofs.lemmas.Bool.{cases_lt}
use Rattle.std.proofs.Math.Seq.{get_or-append_seam, drop-append_seam}
use Rattle.std.proofs.Math.ListN.{get_or-append}
use Rattle.std.proofs.lemmas.Grind.{common_steps}
use Rattle.key_table.specs.declared.entry.Entry.{Entry}
use Rattle.key_table.specs.Hash.{tag_of}
use Rattle.key_table.specs.Kept.{key_in, pair_in, pairs_in, IsEntry, AreEntries}

range_in_longer : (texts more : List ℕ) (at end : ℕ) → at ≤ end → end ≤ length texts → slice_range (texts ++ more) at end ≡ slice_range texts at end
range_in_longer texts more at end ordered within =
    let a : at ≤ length texts = omega arith in
    let b : end - at ≤ length (drop at texts) = omega (arith, length-drop at texts) in
    rw (drop-append-le at texts more a, take-append-le (end - at) (drop at texts) more b) refl

key_in_longer : (texts more : List ℕ) (entry : Entry) → entry.at + entry.len ≤ length texts → key_in (texts ++ more) entry ≡ key_in texts entry
key_in_longer texts more entry within = range_in_longer texts more entry.at (entry.at + entry.len) (omega arith) within

entry_in_longer : (texts more : List ℕ) (entry : Entry) → IsEntry texts entry → IsEntry (texts ++ more) entry
entry_in_longer texts more entry is = record {
  within = (let w = is.within in omega (arith, length-append texts more));
  tag = is.tag ∙ ap tag_of (sym (key_in_longer texts more entry is.within));
}

pub pairs_in_longer : (texts more : List ℕ) (entries : List Entry) → AreEntries texts entries → pairs_in (texts ++ more) entries ≡ pairs_in texts entries
pairs_in_longer texts more [] all = refl
pairs_in_longer texts more (entry ∷ entries) all =
    let first : key_in (texts ++ more) entry ≡ key_in texts entry = key_in_longer texts more entry (all 0 entry (omega arith)).within in
    let rest : pairs_in (texts ++ more) entries ≡ pairs_in texts entries = pairs_in_longer texts more entries (λ k d within. all (suc k) d (omega arith)) in
    rw (first, rest) refl

-- ---- one entry more at the end, whose key is what the texts gain

key_at_end : (texts key : List ℕ) → slice_range (texts ++ key) (length texts) (length texts + length key) ≡ key
key_at_end texts key = grind (arith, common_steps, drop-append_seam texts key)

new_key : (texts key : List ℕ) (entry : Entry) → entry.at ≡ length texts → entry.len ≡ length key → key_in (texts ++ key) entry ≡ key
new_key texts key entry at len = rw (at, len) (key_at_end texts key)

new_entry : (texts key : List ℕ) (entry : Entry) → entry.at ≡ length texts → entry.len ≡ length key → entry.tag ≡ tag_of key → IsEntry (texts ++ key) entry
new_entry texts key entry at len tag = record {
  within = omega (arith, length-append texts key);
  tag = tag ∙ ap tag_of (sym (new_key texts key entry at len));
}

pub entries_more : (texts key : List ℕ) (entries : List Entry) (entry : Entry) → AreEntries texts entries → entry.at ≡ length texts → entry.len ≡ length key → entry.tag ≡ tag_of key → AreEntries (texts ++ key) (entries ++ entry ∷ [])
entries_more texts key entries entry all at len tag k d within =
    elim (cases_lt k (length entries)) [
      | inl before ↦ subst (IsEntry (texts ++ key)) (sym (get_or-append entries (entry ∷ []) d k before)) (entry_in_longer texts key _ (all k d before))
      | inr behind ↦
          let here : k ≡ length entries = omega (arith, length-append entries (entry ∷ [])) in
          subst (λ n. IsEntry (texts ++ key) (get_or (entries ++ entry ∷ []) n d)) (sym here)
          (subst (IsEntry (texts ++ key)) (sym (get_or-append_seam entries entry [] d)) (new_entry texts key entry at len tag))
    ]

pub pairs_more : (texts key : List ℕ) (entries : List Entry) (entry : Entry) → AreEntries texts entries → entry.at ≡ length texts → entry.len ≡ length key → pairs_in (texts ++ key) (entries ++ entry ∷ []) ≡ pairs_in texts entries ++ record { key = key; place = entry.place; needed = entry.needed } ∷ []
pairs_more texts key entries entry all at len =
    rw (map-append (pair_in (texts ++ key)) entries (entry ∷ []), pairs_in_longer texts key entries all, new_key texts key entry at len) refl
