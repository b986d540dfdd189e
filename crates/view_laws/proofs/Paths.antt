-- The path of a URL that is read is ASCII.
use Rattle.std.proofs.Common.{◌≡◌, ℕ, ◌-◌, Bool, true, false, cond, not, ◌&&◌, ◌==◌, List, [], ◌∷◌, ◌++◌, length, get_or, take, drop, IsAscii, refl, ap, ◌∙◌, subst, arith, lit<}
use Rattle.std.specs.Prelude.{codes, unwrap_or}
use Rattle.std.proofs.lemmas.Bool.{cond_both, and_parts}
use Rattle.std.proofs.lemmas.Bool.Decides.{nat_tests}
use Rattle.std.proofs.lemmas.List.{take_at}
use Rattle.std.proofs.lemmas.Str.{IsAscii-append, IsAscii-take}
use Rattle.std.proofs.lemmas.Str.Ascii.{IsAscii-nil, IsAscii-cons}
use Rattle.percent_encoding.proofs.PercentLemmas.{IsAscii-percent_encode}
use Rattle.url.specs.declared.sets.TheConstants.{PATH}
use Rattle.url.specs.declared.scheme.SchemeType.{SchemeType}
use Rattle.url.specs.Input.{is_empty, when, rsplit_once}
use Rattle.url.specs.Scheme.{is_special, is_file, is_slash}
use Rattle.url.specs.Path.{dot_count, is_windows_drive_letter, without_last_segment, shorten_path, segment_text, push_segment, parse_segments, parse_path, parse_path_start, escape_end}
use Rattle.url.proofs.InputLemmas.{rsplit_once_front}

front_ascii : (whole front rest : List ℕ) → whole ≡ front ++ rest → IsAscii whole → IsAscii front
front_ascii whole front rest split ascii =
    subst IsAscii (ap (take (length front)) split ∙ take_at front rest (length front) refl) (IsAscii-take whole (length front) ascii)

last_slash : (last : Bool) → IsAscii (when last (47 ∷ []))
last_slash true = IsAscii-cons 47 [] (lit< tt) IsAscii-nil
last_slash false = IsAscii-nil

shortened : (path : List ℕ) → IsAscii path → IsAscii (without_last_segment path)
shortened path ascii = let split = rsplit_once_front 47 path in front_ascii path (unwrap_or (rsplit_once 47 path).0 []) split.0 split.1 ascii

shorten_ascii : (kind : SchemeType) (path : List ℕ) → IsAscii path → IsAscii (shorten_path kind path)
unfolding shorten_path
shorten_ascii kind path ascii = cond_both _ path (without_last_segment path) IsAscii (λ _. ascii) (λ _. shortened path ascii)

drive_ascii : (segment : List ℕ) → is_windows_drive_letter segment ≡ true → IsAscii (get_or segment 0 0 ∷ 58 ∷ [])
unfolding is_windows_drive_letter
drive_ascii segment drive = IsAscii-cons (get_or segment 0 0) (58 ∷ []) (grind (arith, nat_tests)) (IsAscii-cons 58 [] (lit< tt) IsAscii-nil)

segment_ascii : (kind : SchemeType) (path segment : List ℕ) → IsAscii (segment_text kind path segment)
segment_ascii kind path segment =
    cond_both (is_file kind && is_empty path && is_windows_drive_letter segment) _ _ IsAscii (λ drive. drive_ascii segment (and_parts _ _ drive).1)
    (λ _. IsAscii-percent_encode PATH segment)

push_ascii : (kind : SchemeType) (path segment : List ℕ) (last : Bool) → IsAscii path → IsAscii (push_segment kind path segment last)
unfolding push_segment
push_ascii kind path segment last ascii =
    cond_both (dot_count segment == 2) _ _ IsAscii (λ _. IsAscii-append (shorten_path kind path) _ (shorten_ascii kind path ascii) (last_slash last))
    (λ _. cond_both (dot_count segment == 1) _ _ IsAscii (λ _. IsAscii-append path _ ascii (last_slash last))
    (λ _. IsAscii-append path _ ascii (IsAscii-cons 47 (segment_text kind path segment) (lit< tt) (segment_ascii kind path segment))))

segments_ascii : (kind : SchemeType) (path segment bytes : List ℕ) → IsAscii path → IsAscii (parse_segments kind path segment bytes)
unfolding parse_segments
segments_ascii kind path segment [] ascii = push_ascii kind path segment true ascii
segments_ascii kind path segment (b ∷ bytes) ascii =
    cond_both (is_slash kind b) _ _ IsAscii (λ _. segments_ascii kind (push_segment kind path segment false) [] bytes (push_ascii kind path segment false ascii))
    (λ _. segments_ascii kind path (segment ++ b ∷ []) bytes ascii)

pub path_ascii : (kind : SchemeType) (path bytes : List ℕ) → IsAscii path → IsAscii (parse_path kind path bytes)
path_ascii kind path bytes ascii = segments_ascii kind path [] bytes ascii

pub start_ascii : (kind : SchemeType) (path bytes : List ℕ) → IsAscii path → IsAscii (parse_path_start kind path bytes)
unfolding parse_path_start
start_ascii kind path bytes ascii =
    let first = parse_path kind path (drop 1 bytes) in
    let whole = parse_path kind path bytes in
    cond_both (is_empty bytes && not (is_special kind)) path (cond (is_slash kind (get_or bytes 0 0)) first whole) IsAscii (λ _. ascii)
    (λ _. cond_both (is_slash kind (get_or bytes 0 0)) first whole IsAscii (λ _. path_ascii kind path (drop 1 bytes) ascii) (λ _. path_ascii kind path bytes ascii))

escaped_space : IsAscii (codes "%20")
escaped_space = IsAscii-cons 37 (50 ∷ 48 ∷ []) (lit< tt) (IsAscii-cons 50 (48 ∷ []) (lit< tt) (IsAscii-cons 48 [] (lit< tt) IsAscii-nil))

pub escape_ascii : (path : List ℕ) → IsAscii path → IsAscii (escape_end path)
escape_ascii path ascii =
    cond_both _ _ path IsAscii (λ _. IsAscii-append (take (length path - 1) path) (codes "%20") (IsAscii-take path (length path - 1) ascii) escaped_space) (λ _. ascii)
