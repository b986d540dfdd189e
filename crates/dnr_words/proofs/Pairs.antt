-- Words, two at a time from the front.
use Rattle.std.proofs.Common.{◌≡◌, ℕ, ◌-◌, ◌<◌, ◌≤◌, List, [], ◌∷◌, ◌++◌, length, get_or, take, drop, map, Option, Some, string_bytes, Global, option_and_then, sym, ap, ◌∙◌, arith}
use Rattle.std.specs.declared.string.String.{String}
use Rattle.std.proofs.lemmas.List.{take_all, append-nil}
use Rattle.session_spec.specs.Words.{Installed, choice_of}
use Rattle.dnr_words.specs.Reading.{installed_in, once_after, chosen_from}

-- the first two, and the others
front_two : {X : Type 0} (xs : List X) (first second : X) → 2 ≤ length xs → first ≡ get_or xs 0 first → second ≡ get_or xs 1 second
    → xs ≡ first ∷ second ∷ take (length xs - 2) (drop 2 xs)
front_two [] first second long one two = absurd (omega arith)
front_two (x ∷ []) first second long one two = absurd (omega arith)
front_two (x ∷ y ∷ xs) first second long one two =
    ap (λ a. a ∷ y ∷ xs) (sym one) ∙ ap (λ b. first ∷ b ∷ xs) (sym two)
    ∙ ap (λ r. first ∷ second ∷ r) (sym (take_all (length (x ∷ y ∷ xs) - 2) xs (omega arith)))

-- One option more was gone over.
pub chosen_next : (words : List (String Global)) (option value : String Global) (name text : List ℕ)
    (workers next_workers : Option ℕ) (suffixes next_suffixes : Option (List ℕ))
    → 2 ≤ length words → option ≡ get_or words 0 option → value ≡ get_or words 1 value
    → name ≡ string_bytes option → text ≡ string_bytes value
    → Some (next_workers, next_suffixes) ≡ once_after workers suffixes (choice_of name text)
    → chosen_from next_workers next_suffixes (map string_bytes (take (length words - 2) (drop 2 words)))
    ≡ chosen_from workers suffixes (map string_bytes words)
chosen_next words option value name text workers next_workers suffixes next_suffixes long one two is_name is_text chosen =
    let rest = take (length words - 2) (drop 2 words) in
    ap (option_and_then (λ (both : Option ℕ × Option (List ℕ)). chosen_from both.0 both.1 (map string_bytes rest)))
    (chosen ∙ ap (λ n. once_after workers suffixes (choice_of n text)) is_name
    ∙ ap (λ t. once_after workers suffixes (choice_of (string_bytes option) t)) is_text)
    ∙ sym (ap (λ ws. chosen_from workers suffixes (map string_bytes ws)) (front_two words option value long one two))

-- Fewer than two words install nothing.
pub none_left : (words : List (String Global)) (all everything : List Installed) → length words < 2
    → all ++ installed_in (map string_bytes words) ≡ everything → all ≡ everything
none_left [] all everything few so_far = sym (append-nil all) ∙ so_far
none_left (x ∷ []) all everything few so_far = sym (append-nil all) ∙ so_far
none_left (x ∷ y ∷ words) all everything few so_far = absurd (omega arith)
