-- What the lengths of keys tell.
use Rattle.std.proofs.Common.{◌≡◌, ◌%◌, ℕ, zero, suc, List, [], ◌∷◌, Bool, true, false, Ordering, Less, Equal, Greater, Option, None, Some, length, get_or, set, fold, replicate, refl, sym, ◌∙◌, arith}
use Rattle.std.specs.Prelude.{String, string_bytes}
use Rattle.std.specs.declared.alloc.Global.{Global}
use Rattle.std.specs.Ordering.{nat_cmp, match_ordering}
use Rattle.std.specs.Cmp.Lexicographic.{slice_cmp}
use Rattle.std.proofs.lemmas.List.{get_or-set_same, length-set}
use Rattle.std.proofs.lemmas.Map.Lookups.{exact_bytes}
use Rattle.std.proofs.lemmas.Bool.{true≢false}
use Rattle.std.specs.Map.{keys_of}
use Rattle.serde_json.specs.declared.value.Value.{Value}
use Rattle.serde_json.specs.Find.{get_member}
use Rattle.serde_json.specs.View.{view, members_view}
use Rattle.rule_fields.specs.Lengths.{with_key, lengths_of, is_told}

stays : (lengths : List Bool) (i j : ℕ) → get_or lengths j false ≡ true → get_or (set lengths i true) j false ≡ true
stays [] i j told = told
stays (x ∷ lengths) zero zero told = refl
stays (x ∷ lengths) zero (suc j) told = told
stays (x ∷ lengths) (suc i) zero told = told
stays (x ∷ lengths) (suc i) (suc j) told = stays lengths i j told

all_stay : (keys : List (String Global)) (lengths : List Bool) (key : List ℕ) → is_told lengths key ≡ true → is_told (fold with_key lengths keys) key ≡ true
all_stay [] lengths key told = told
all_stay (one ∷ keys) lengths key told = all_stay keys (with_key lengths one) key (stays lengths (length (string_bytes one) % 32) (length key % 32) told)

is_there : (entries : List (String Global × Value)) (lengths : List Bool) (one : String Global) (key : List ℕ) → length lengths ≡ 32 → key ≡ string_bytes one
    → is_told (fold with_key (with_key lengths one) (keys_of entries)) key ≡ true
is_there entries lengths one key long is =
    all_stay (keys_of entries) (with_key lengths one) key
    (rw is (get_or-set_same lengths (length (string_bytes one) % 32) true false (rw long (omega arith))))

-- a key is not among those of which none has its length
lacks : (entries : List (String Global × Value)) (lengths : List Bool) (key : List ℕ) → length lengths ≡ 32
    → is_told (fold with_key lengths (keys_of entries)) key ≡ false → get_member key (members_view entries) ≡ None
lacks [] lengths key long none = refl
lacks (e ∷ entries) lengths key long none =
    by_order (slice_cmp nat_cmp key (string_bytes e.0)) refl (lacks entries (with_key lengths e.0) key (length-set lengths (length (string_bytes e.0) % 32) true ∙ long) none) where
      by_order : (o : Ordering) → slice_cmp nat_cmp key (string_bytes e.0) ≡ o → get_member key (members_view entries) ≡ None
          → match_ordering o (get_member key (members_view entries)) (Some (view e.1)) (get_member key (members_view entries)) ≡ None
      by_order Less is behind = behind
      by_order Equal is behind = absurd (true≢false (sym (is_there entries lengths e.0 key long (exact_bytes key (string_bytes e.0) is)) ∙ none))
      by_order Greater is behind = behind

pub lacks_untold : (entries : List (String Global × Value)) (key : List ℕ) → is_told (lengths_of (keys_of entries)) key ≡ false
    → get_member key (members_view entries) ≡ None
lacks_untold entries key none = lacks entries (replicate 32 false) key refl none
