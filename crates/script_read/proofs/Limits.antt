-- What is read keeps the limits of requests.
use Rattle.std.proofs.Common.{◌≡◌, ℕ, ◌+◌, ◌≤◌, List, [], ◌∷◌, map, length, Bool, true, false, ◌&&◌, nat_lt, nat_le, Option, Some, None, Result, Ok, Err, refl, sym, ap, ◌∙◌, ⊎_elim, arith}
use Rattle.std.specs.Prelude.{option_map, option_and_then, IfOk}
use Rattle.std.specs.List.{list_all}
use Rattle.std.specs.Str.{bytes_eq, str_to_ascii_lowercase}
use Rattle.std.specs.Char.{to_ascii_lowercase}
use Rattle.std.proofs.lemmas.Bool.{cases_Bool, cond-true, cond-false, and_parts}
use Rattle.std.proofs.lemmas.Bool.Decides.{nat_tests}
use Rattle.std.proofs.lemmas.List.{length-map}
use Rattle.std.proofs.lemmas.Slice.Eq.{bytes_eq-Decides}
use Rattle.http_header.specs.Token.{is_token_byte, lowercase}
use Rattle.http_header.proofs.TokenLemmas.{is_token_byte-to_ascii_lowercase, lowercase-lowercase_lem}
use Rattle.serde_json.specs.Data.{Data, Items, item, no_items}
use Rattle.serde_json.specs.Find.{as_str, as_array}
use Rattle.serde_json.specs.declared.value.Value.{Value}
use Rattle.serde_json.specs.View.{items_view}
use Rattle.dnr_base.specs.declared.frame.Frame.{Frame}
use Rattle.dnr_base.specs.declared.header.Header.{Header}
use Rattle.dnr_base.specs.Request.{is_short_name, IsHeaderList}
use Rattle.dnr_spec.specs.Headers.{is_name}
use Rattle.line_spec.specs.declared.command_path.CommandPath.TheVariants as path
use Rattle.line_spec.specs.declared.line_fault.LineFault.{LineFault}
use Rattle.line_spec.specs.declared.line_fault.LineFault.TheVariants.{BadCommand}
use Rattle.json_spec.specs.RuleFields.{each}
use Rattle.line_spec.specs.Reading.{and_then}
use Rattle.line_spec.specs.RequestLine.{count_of, each_frame, frames_from, frames_given, frame_in, as_header, header_from, header_of, is_one_value}
use Rattle.script_read.proofs.Names.{is_name_by_bytes}

-- ---- counts

pub count_is : (values : List Value) → count_of (items_view values) ≡ length values
count_is [] = refl
count_is (value ∷ values) = let rest = count_is values in grind arith

-- as many are read as there are
counted_step : {X : Type 0} (first : Option X) (rest : Option (List X)) (n : ℕ) (xs : List X)
    → option_and_then (λ x. option_map (λ ys. x ∷ ys) rest) first ≡ Some xs → ((ys : List X) → rest ≡ Some ys → length ys ≡ n) → length xs ≡ n + 1
counted_step None rest n xs h all = cc
counted_step (Some x) None n xs h all = cc
counted_step (Some x) (Some ys) n xs h all =
    let same : (x ∷ ys) ≡ xs = cc in
    let rest = all ys refl in
    ap length (sym same) ∙ grind (arith, rest)

each_counted : {X : Type 0} (form : Data → Option X) (items : Items) (xs : List X) → each form items ≡ Some xs → length xs ≡ count_of items
each_counted form no_items xs h = let same : [] ≡ xs = cc in ap length (sym same)
each_counted form (item d items) xs h = counted_step (form d) (each form items) (count_of items) xs h (λ ys is. each_counted form items ys is)

frames_step : (first : Result Frame LineFault) (rest : Result (List Frame) LineFault) (n : ℕ) (xs : List Frame)
    → and_then first (λ x. and_then rest (λ ys. Ok (x ∷ ys))) ≡ Ok xs → ((ys : List Frame) → rest ≡ Ok ys → length ys ≡ n) → length xs ≡ n + 1
frames_step (Err fault) rest n xs h all = cc
frames_step (Ok x) (Err fault) n xs h all = cc
frames_step (Ok x) (Ok ys) n xs h all =
    let same : (x ∷ ys) ≡ xs = cc in
    let rest = all ys refl in
    ap length (sym same) ∙ grind (arith, rest)

pub frames_counted : (items : Items) (frames : List Frame) → each_frame items ≡ Ok frames → length frames ≡ count_of items
frames_counted no_items frames h = let same : [] ≡ frames = cc in ap length (sym same)
frames_counted (item d items) frames h = frames_step (frame_in d) (each_frame items) (count_of items) frames h (λ ys is. frames_counted items ys is)

-- ---- names

in_order : (all same : Bool) (n : ℕ) → (((nat_lt 0 n && all) && nat_le n 65535) && same) && nat_le n 256 ≡ ((nat_lt 0 n && nat_le n 256) && all) && same
in_order true true n = grind (arith, nat_tests)
in_order true false n = grind (arith, nat_tests)
in_order false true n = grind (arith, nat_tests)
in_order false false n = grind (arith, nat_tests)

is_short_by_bytes : (name : List ℕ) → is_short_name name ≡ ((nat_lt 0 (length name) && nat_le (length name) 256) && list_all is_token_byte name) && bytes_eq (lowercase name) name
unfolding is_token_byte
is_short_by_bytes name = in_order (list_all is_token_byte name) (bytes_eq (lowercase name) name) (length name)

tokens_lowered : (name : List ℕ) → list_all is_token_byte name ≡ true → list_all is_token_byte (map to_ascii_lowercase name) ≡ true
tokens_lowered [] h = refl
tokens_lowered (b ∷ name) h =
    let both = and_parts (is_token_byte b) (list_all is_token_byte name) h in
    ap (λ t. t && list_all is_token_byte (map to_ascii_lowercase name)) (is_token_byte-to_ascii_lowercase b both.0) ∙ tokens_lowered name both.1

name_is_short : (name : List ℕ) → is_name name ≡ true → is_short_name (str_to_ascii_lowercase name) ≡ true
name_is_short name h =
    let lower = str_to_ascii_lowercase name in
    let both = and_parts (nat_lt 0 (length name) && nat_le (length name) 256) (list_all is_token_byte name) (sym (is_name_by_bytes name) ∙ h) in
    let same : bytes_eq (lowercase lower) lower ≡ true = (bytes_eq-Decides (lowercase lower) lower).1 (lowercase-lowercase_lem name) in
    is_short_by_bytes lower
    ∙ ap (λ n. ((nat_lt 0 n && nat_le n 256) && list_all is_token_byte lower) && bytes_eq (lowercase lower) lower) (length-map name to_ascii_lowercase)
    ∙ ap (λ t. (t && list_all is_token_byte lower) && bytes_eq (lowercase lower) lower) both.0
    ∙ ap (λ t. t && bytes_eq (lowercase lower) lower) (tokens_lowered name both.1)
    ∙ same

-- ---- headers

of_words : (name value : Option (List ℕ)) (header : Header) → header_of name value ≡ Some header → is_short_name header.name ≡ true
of_words None value header h = cc
of_words (Some name) None header h = cc
of_words (Some name) (Some value) header h =
    let made : Header = record { name = str_to_ascii_lowercase name; value = value } in
    ⊎_elim
    (λ yes.
    let same : made ≡ header = (let e = sym (cond-true (is_name name && is_one_value value) (Some made) None yes) ∙ h in cc) in
    ap (λ (x : Header). is_short_name x.name) (sym same) ∙ name_is_short name (and_parts (is_name name) (is_one_value value) yes).0)
    (λ no. let e = sym (cond-false (is_name name && is_one_value value) (Some made) None no) ∙ h in cc)
    (cases_Bool (is_name name && is_one_value value))

of_items : (items : Items) (header : Header) → header_from items ≡ Some header → is_short_name header.name ≡ true
of_items no_items header h = cc
of_items (item name no_items) header h = cc
of_items (item name (item value no_items)) header h = of_words (as_str name) (as_str value) header h
of_items (item name (item value (item other items))) header h = cc

of_list : (list : Option Items) (header : Header) → option_and_then header_from list ≡ Some header → is_short_name header.name ≡ true
of_list None header h = cc
of_list (Some items) header h = of_items items header h

header_is_short : (d : Data) (header : Header) → as_header d ≡ Some header → is_short_name header.name ≡ true
unfolding as_header
header_is_short d header h = of_list (as_array d) header h

all_step : (first : Option Header) (rest : Option (List Header)) (xs : List Header)
    → option_and_then (λ x. option_map (λ ys. x ∷ ys) rest) first ≡ Some xs
    → ((x : Header) → first ≡ Some x → is_short_name x.name ≡ true)
    → ((ys : List Header) → rest ≡ Some ys → list_all (λ header. is_short_name header.name) ys ≡ true)
    → list_all (λ header. is_short_name header.name) xs ≡ true
all_step None rest xs h one all = cc
all_step (Some x) None xs h one all = cc
all_step (Some x) (Some ys) xs h one all =
    let same : (x ∷ ys) ≡ xs = cc in
    ap (list_all (λ header. is_short_name header.name)) (sym same)
    ∙ ap (λ t. t && list_all (λ header. is_short_name header.name) ys) (one x refl) ∙ all ys refl

all_short : (items : Items) (xs : List Header) → each as_header items ≡ Some xs → list_all (λ header. is_short_name header.name) xs ≡ true
all_short no_items xs h = let same : [] ≡ xs = cc in ap (list_all (λ header. is_short_name header.name)) (sym same)
all_short (item d items) xs h = all_step (as_header d) (each as_header items) xs h (λ x is. header_is_short d x is) (λ ys is. all_short items ys is)

-- a list that is read is one that a request may carry
pub headers_listed : (values : List Value) (headers : List Header) → length values ≤ 512 → each as_header (items_view values) ≡ Some headers → IsHeaderList headers
headers_listed values headers few h = record {
  few = let count = each_counted as_header (items_view values) headers h ∙ count_is values in grind (arith, count, few);
  names = all_short (items_view values) headers h;
}

-- ---- frames

pub frames_few : (values : List Value) (result : Result (List Frame) LineFault) → length values ≤ 64
    → IfOk result (λ frames. each_frame (items_view values) ≡ Ok frames) → IfOk result (λ frames. length frames ≤ 64)
frames_few values (Ok frames) few h =
    let count = frames_counted (items_view values) frames h ∙ count_is values in grind (arith, count, few)
frames_few values (Err fault) few h = h

-- a list of few items is read by them
pub frames_are : (values items : List Value) (d : Data) → items ≡ values → Some (items_view values) ≡ as_array d → length values ≤ 64 → each_frame (items_view items) ≡ frames_given (Some d)
frames_are values items d same is few =
    let count = count_is values in
    let small : nat_le (count_of (items_view values)) 64 ≡ true = grind (arith, nat_tests, count, few) in
    ap (λ vs. each_frame (items_view vs)) same
    ∙ sym (cond-true (nat_le (count_of (items_view values)) 64) (each_frame (items_view values)) (Err (BadCommand path.Frames)) small)
    ∙ ap frames_from is
