-- What is read of a part of a request stays, where only what has its form was kept.
use Rattle.std.proofs.Common.{◌≡◌, ℕ, zero, suc, ◌+◌, List, ◌∷◌, Bool, true, false, nat_le, Option, Some, None, Ok, codes, refl, sym, ap, ap₂, ◌∙◌, subst}
use Rattle.std.specs.Prelude.{option_map, option_and_then}
use Rattle.serde_json.specs.Data.{Data, null, boolean, number, string, array, object, Items, no_items, item}
use Rattle.serde_json.specs.Find.{get, as_str, as_array}
use Rattle.dnr_base.specs.declared.method.Method.TheVariants.{Get}
use Rattle.dnr_base.specs.Request.{max_frames, max_headers}
use Rattle.json_spec.specs.RuleFields.{each, as_method}
use Rattle.line_spec.specs.declared.command_path.CommandPath.{CommandPath}
use Rattle.line_spec.specs.declared.command_path.CommandPath.TheVariants as path
use Rattle.line_spec.specs.Reading.{and_then}
use Rattle.line_spec.specs.RequestLine.{given, given_or, initiator_from, initiator_in, method_in, count_of, frame_url, frame_in, each_frame, frames_from, frames_given, header_of, header_from, as_header, few_headers, headers_given}
use Rattle.json_fields.specs.declared.shape.Wanted.TheVariants as wanted
use Rattle.json_fields.proofs.Forms as forms
use Rattle.json_fields.specs.Shapes.{Kept, KeptEach, KeptFew, KeptList, KeptObject, item_count, has_few, kept_text, kept_number, kept_truth}
use Rattle.request_parts.specs.declared.part.RequestPart.{RequestPart}
use Rattle.request_parts.specs.declared.part.RequestPart.TheVariants as part
use Rattle.request_parts.specs.Parts.{wanted_at, item_of, member_of, accepts_at, KeptAs}

-- ---- single values

text_same : (n : ℕ) (d e : Data) → KeptAs n part.Text d e → as_str e ≡ as_str d
text_same n d e h = forms.text_same wanted_at item_of member_of accepts_at part.Text refl n d e h

method_same : (n : ℕ) (d e : Data) → KeptAs n part.Text d e → given_or Get path.Frames as_method (Some e) ≡ given_or Get path.Frames as_method (Some d)
method_same n d e h = rw (text_same n d e h)

url_same : (n : ℕ) (d e : Data) → KeptAs n part.TextOrNull d e → frame_url (Some e) ≡ frame_url (Some d)
url_same n null e h = ap (λ x. frame_url (Some x)) h
url_same n (boolean b) e h = ap (λ x. frame_url (Some x)) h
url_same n (number y) e h = ap (λ x. frame_url (Some x)) h
url_same n (string s) e h = ap (λ x. frame_url (Some x)) h
url_same zero (array ds) e h = absurd h
url_same (suc n) (array ds) e h = ap (λ x. frame_url (Some x)) h
url_same zero (object ms) e h = absurd h
url_same (suc n) (object ms) e h = ap (λ x. frame_url (Some x)) h

initiator_same : (n : ℕ) (d e : Data) → KeptAs n part.TextOrNull d e → initiator_from path.Frames (Some e) ≡ initiator_from path.Frames (Some d)
initiator_same n null e h = ap (λ x. initiator_from path.Frames (Some x)) h
initiator_same n (boolean b) e h = ap (λ x. initiator_from path.Frames (Some x)) h
initiator_same n (number y) e h = ap (λ x. initiator_from path.Frames (Some x)) h
initiator_same n (string s) e h = ap (λ x. initiator_from path.Frames (Some x)) h
initiator_same zero (array ds) e h = absurd h
initiator_same (suc n) (array ds) e h = ap (λ x. initiator_from path.Frames (Some x)) h
initiator_same zero (object ms) e h = absurd h
initiator_same (suc n) (object ms) e h = ap (λ x. initiator_from path.Frames (Some x)) h

-- ---- members of an object

pub member_same : {X : Type 0} (o t : RequestPart) (key : List ℕ) (reading : Option Data → X) → wanted_at o ≡ wanted.Object → member_of o key ≡ Some t
    → ((n : ℕ) (d e : Data) → KeptAs n t d e → reading (Some e) ≡ reading (Some d)) → (n : ℕ) (d e : Data) → KeptAs n o d e → reading (get key e) ≡ reading (get key d)
member_same o t key reading is there law n d e h = forms.member_same wanted_at item_of member_of accepts_at o t key reading is (λ _. refl) there law n d e h

-- ---- items of a list

counts_same : (ds : Items) → item_count ds ≡ count_of ds
counts_same no_items = refl
counts_same (item d ds) = ap (λ n. n + 1) (counts_same ds)

as_many : (keeps : Data → Data → Type 0) (ds es : Items) → KeptEach keeps ds es → count_of es ≡ count_of ds
as_many keeps no_items no_items h = refl
as_many keeps no_items (item e es) h = absurd h
as_many keeps (item d ds) no_items h = absurd h
as_many keeps (item d ds) (item e es) h = ap (λ n. n + 1) (as_many keeps ds es h.1)

-- what is read of few items and refused of more
few_same : {X : Type 0} (keeps : Data → Data → Type 0) (most : ℕ) (reading : Option Items → X) (few : Items → X)
    → ((ds : Items) → nat_le (count_of ds) most ≡ true → reading (Some ds) ≡ few ds) → ((ds : Items) → nat_le (count_of ds) most ≡ false → reading (Some ds) ≡ reading None)
    → ((ds es : Items) → KeptEach keeps ds es → few es ≡ few ds)
    → (b : Bool) (ds : Items) (e : Data) → has_few most ds ≡ b → KeptFew keeps b ds e → reading (as_array e) ≡ reading (Some ds)
few_same keeps most reading few reads refuses law true ds e is h =
    let small : nat_le (count_of ds) most ≡ true = sym (ap (λ n. nat_le n most) (counts_same ds)) ∙ is in
    ap (λ x. reading (as_array x)) h.1 ∙ reads h.0 (ap (λ n. nat_le n most) (as_many keeps ds h.0 h.2) ∙ small) ∙ law ds h.0 h.2 ∙ sym (reads ds small)
few_same keeps most reading few reads refuses law false ds e is h =
    ap (λ x. reading (as_array x)) h ∙ sym (refuses ds (sym (ap (λ n. nat_le n most) (counts_same ds)) ∙ is))

list_same : {X : Type 0} (l t : RequestPart) (most : ℕ) (reading : Option Items → X) (few : Items → X) → wanted_at l ≡ wanted.Few most → item_of l ≡ t
    → ((ds : Items) → nat_le (count_of ds) most ≡ true → reading (Some ds) ≡ few ds) → ((ds : Items) → nat_le (count_of ds) most ≡ false → reading (Some ds) ≡ reading None)
    → ((n : ℕ) (ds es : Items) → KeptEach (KeptAs n t) ds es → few es ≡ few ds) → (n : ℕ) (d e : Data) → KeptAs n l d e → reading (as_array e) ≡ reading (as_array d)
list_same l t most reading few is of_items reads refuses law n null e h = ap (λ x. reading (as_array x)) h
list_same l t most reading few is of_items reads refuses law n (boolean b) e h = ap (λ x. reading (as_array x)) (h ∙ ap (λ w. kept_truth w b) is)
list_same l t most reading few is of_items reads refuses law n (number y) e h = ap (λ x. reading (as_array x)) (h ∙ ap (λ w. kept_number w y) is)
list_same l t most reading few is of_items reads refuses law n (string s) e h = ap (λ x. reading (as_array x)) (h ∙ ap (λ w. kept_text w s) is)
list_same l t most reading few is of_items reads refuses law zero (array ds) e h = absurd h
list_same l t most reading few is of_items reads refuses law (suc n) (array ds) e h =
    few_same (KeptAs n t) most reading few reads refuses (law n) (has_few most ds) ds e refl
    (subst (λ p. KeptFew (KeptAs n p) (has_few most ds) ds e) of_items (subst (λ w. KeptList (KeptAs n (item_of l)) w ds e) is h))
list_same l t most reading few is of_items reads refuses law zero (object ms) e h = absurd h
list_same l t most reading few is of_items reads refuses law (suc n) (object ms) e h =
    ap (λ x. reading (as_array x)) (subst (λ w. KeptObject (Kept wanted_at item_of member_of accepts_at n) (member_of l) (accepts_at l) w ms e) is h)

-- ---- frames

frame_same : (n : ℕ) (d e : Data) → KeptAs n part.Frame d e → frame_in e ≡ frame_in d
unfolding frame_in initiator_in method_in
frame_same n d e h =
    let url = member_same part.Frame part.TextOrNull (codes "url") frame_url refl refl url_same n d e h in
    let initiator = member_same part.Frame part.TextOrNull (codes "initiator") (initiator_from path.Frames) refl refl initiator_same n d e h in
    let method = member_same part.Frame part.Text (codes "method") (given_or Get path.Frames as_method) refl refl method_same n d e h in
    rw (url, initiator, method)

each_frame_same : (n : ℕ) (ds es : Items) → KeptEach (KeptAs n part.Frame) ds es → each_frame es ≡ each_frame ds
each_frame_same n no_items no_items h = refl
each_frame_same n no_items (item e es) h = absurd h
each_frame_same n (item d ds) no_items h = absurd h
each_frame_same n (item d ds) (item e es) h = rw (frame_same n d e h.0, each_frame_same n ds es h.1)

pub frames_same : (n : ℕ) (d e : Data) → KeptAs n part.Frames d e → frames_given (Some e) ≡ frames_given (Some d)
frames_same n d e h = list_same part.Frames part.Frame max_frames frames_from each_frame refl refl (λ ds is. rw is) (λ ds is. rw is) each_frame_same n d e h

-- ---- headers

pair_same : (n : ℕ) (ds es : Items) → KeptEach (KeptAs n part.Text) ds es → header_from es ≡ header_from ds
pair_same n no_items no_items h = refl
pair_same n no_items (item e es) h = absurd h
pair_same n (item d ds) no_items h = absurd h
pair_same n (item d no_items) (item e no_items) h = refl
pair_same n (item d no_items) (item e (item f fs)) h = absurd h.1
pair_same n (item d (item c cs)) (item e no_items) h = absurd h.1
pair_same n (item d (item c no_items)) (item e (item f no_items)) h = ap₂ header_of (text_same n d e h.0) (text_same n c f h.1.0)
pair_same n (item d (item c no_items)) (item e (item f (item g gs))) h = absurd h.1.1
pair_same n (item d (item c (item b bs))) (item e (item f no_items)) h = absurd h.1.1
pair_same n (item d (item c (item b bs))) (item e (item f (item g gs))) h = refl

no_pair : (ds : Items) → nat_le (count_of ds) 2 ≡ false → header_from ds ≡ None
no_pair no_items h = refl
no_pair (item d no_items) h = refl
no_pair (item d (item c no_items)) h = absurd (cc)
no_pair (item d (item c (item b bs))) h = refl

header_same : (n : ℕ) (d e : Data) → KeptAs n part.Header d e → as_header e ≡ as_header d
unfolding as_header
header_same n d e h = list_same part.Header part.Text 2 (λ x. option_and_then header_from x) header_from refl refl (λ ds is. refl) no_pair pair_same n d e h

each_header_same : (n : ℕ) (ds es : Items) → KeptEach (KeptAs n part.Header) ds es → each as_header es ≡ each as_header ds
each_header_same n no_items no_items h = refl
each_header_same n no_items (item e es) h = absurd h
each_header_same n (item d ds) no_items h = absurd h
each_header_same n (item d ds) (item e es) h = ap₂ (λ o rest. option_and_then (λ x. option_map (λ xs. x ∷ xs) rest) o) (header_same n d e h.0) (each_header_same n ds es h.1)

pub headers_same : (field : CommandPath) (n : ℕ) (d e : Data) → KeptAs n part.Headers d e → headers_given field (Some e) ≡ headers_given field (Some d)
headers_same field n d e h =
    ap (λ headers. and_then (given field headers) (λ some. Ok (Some some)))
    (list_same part.Headers part.Header max_headers (λ x. option_and_then few_headers x) (each as_header) refl refl (λ ds is. rw is) (λ ds is. rw is) each_header_same n d e h)
