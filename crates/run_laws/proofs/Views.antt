-- The requests that lines ask about have views.
use Rattle.std.proofs.Common.{◌≡◌, ℕ, List, Bool, true, false, Option, Some, None, Result, Ok, Err, All, refl, subst}
use Rattle.std.specs.Prelude.{IfSome, min, nat_le, option_and_then}
use Rattle.std.proofs.lemmas.Bool.{cond_both}
use Rattle.std.proofs.lemmas.List.Elements.{All-nil, All-cons}
use Rattle.serde_json.specs.Data.{Data, null, string, Items, no_items, item, Members}
use Rattle.serde_json.specs.Find.{as_str, as_array, as_object}
use Rattle.dnr_base.specs.declared.frame.Frame.{Frame}
use Rattle.dnr_base.specs.declared.request.Request.{Request}
use Rattle.dnr_base.specs.Request.{max_frames}
use Rattle.dnr_base.specs.View.{View, IsView}
use Rattle.dnr_spec.specs.declared.view_refusal.ViewRefusal.{ViewRefusal}
use Rattle.dnr_spec.specs.Lines.{is_blank, max_lines}
use Rattle.dnr_spec.specs.UrlView.{view_of}
use Rattle.json_spec.specs.Json.{tree_of}
use Rattle.compile_laws.specs.Origins.{HasViews}
use Rattle.line_spec.specs.declared.command_name.CommandName.{CommandName}
use Rattle.line_spec.specs.declared.command_name.CommandName.TheVariants as name
use Rattle.line_spec.specs.declared.command_path.CommandPath.{CommandPath}
use Rattle.line_spec.specs.declared.command_path.CommandPath.TheVariants as path
use Rattle.line_spec.specs.declared.line_fault.LineFault.{LineFault}
use Rattle.line_spec.specs.Batch.{batch_in}
use Rattle.line_spec.specs.CommandName.{name_in}
use Rattle.line_spec.specs.Line.{Command, blank, sync, request, explain, update, batch, of_line, command_named, command_of_members, command_in, command_of_tree, command_of}
use Rattle.line_spec.specs.Reading.{and_then}
use Rattle.line_spec.specs.RequestLine.{given, field_at, unless_refused, view_at, url_in, initiator_in, kind_in, method_in, tab_in, count_of, frame_url, frame_in, each_frame, frames_from, frames_given, frames_in, headers_in, request_in}
use Rattle.line_spec.specs.Updates.{update_in}
use Rattle.session_spec.specs.Answers.{known_with}
use Rattle.run_laws.specs.Laws.{RequestsHaveViews}
use Rattle.run_laws.specs.Listed.{asked_about}
use Rattle.view_laws.proofs.Read.{texts_give_views}

-- what holds of a value, if it was read
abbrev IfRead : {T : Type 0} → (T → Type 0) → Result T LineFault → Type 0
IfRead P (Ok x) = P x
IfRead P (Err fault) = Unit {0}

-- nothing is to be shown of a step, and of the next one this
then_read : {T U : Type 0} (P : T → Type 0) (Q : U → Type 0) (read : Result T LineFault) (next : T → Result U LineFault) → IfRead P read → ((x : T) → P x → IfRead Q (next x)) → IfRead Q (and_then read next)
then_read P Q (Ok x) next first later = later x first
then_read P Q (Err fault) next first later = tt

then_any : {T U : Type 0} (Q : U → Type 0) (read : Result T LineFault) (next : T → Result U LineFault) → ((x : T) → IfRead Q (next x)) → IfRead Q (and_then read next)
then_any Q (Ok x) next later = later x
then_any Q (Err fault) next later = tt

-- ---- URLs

viewed : (field : CommandPath) (text : List ℕ) (read : Result View ViewRefusal) → view_of text ≡ read → IfRead IsView (unless_refused field read)
viewed field text (Ok view) is = texts_give_views text view is
viewed field text (Err why) is = tt

url_viewed : (d : Data) → IfRead IsView (url_in d)
unfolding url_in
url_viewed d = then_any IsView (given path.Url (option_and_then as_str (field_at path.Url d))) (view_at path.Url) (λ text. viewed path.Url text (view_of text) refl)

-- ---- frames

abbrev IfViewed : Option View → Type 0
IfViewed view = IfSome view IsView

frame_viewed : (given : Option Data) → IfRead IfViewed (frame_url given)
frame_viewed None = tt
frame_viewed (Some null) = tt
frame_viewed (Some (string text)) =
    then_read IsView IfViewed (view_at path.Frames text) (λ view. Ok (Some view)) (viewed path.Frames text (view_of text) refl) (λ view is. is)
frame_viewed (Some other) = tt

abbrev FrameViewed : Frame → Type 0
FrameViewed frame = IfSome frame.view IsView

one_frame : (d : Data) → IfRead FrameViewed (frame_in d)
unfolding frame_in
one_frame d =
    then_read IfViewed FrameViewed (frame_url (field_at path.Url d)) _ (frame_viewed (field_at path.Url d))
    (λ view is. then_any FrameViewed (initiator_in path.Frames d) _ (λ initiator. then_any FrameViewed (method_in path.Frames d) _ (λ method. is)))

abbrev FramesViewed : List Frame → Type 0
FramesViewed frames = All FrameViewed frames

all_frames : (items : Items) → IfRead FramesViewed (each_frame items)
all_frames no_items = All-nil FrameViewed
all_frames (item d items) =
    then_read FrameViewed FramesViewed (frame_in d) _ (one_frame d)
    (λ frame is. then_read FramesViewed FramesViewed (each_frame items) _ (all_frames items) (λ frames all. All-cons FrameViewed frame frames is all))

frames_listed : (items : Option Items) → IfRead FramesViewed (frames_from items)
frames_listed None = tt
frames_listed (Some items) = cond_both (nat_le (count_of items) max_frames) (each_frame items) _ (IfRead FramesViewed) (λ _. all_frames items) (λ _. tt)

frames_known : (given : Option Data) → IfRead FramesViewed (frames_given given)
frames_known None = All-nil FrameViewed
frames_known (Some d) = frames_listed (as_array d)

frames_viewed : (d : Data) → IfRead FramesViewed (frames_in d)
unfolding frames_in
frames_viewed d = frames_known (field_at path.Frames d)

-- ---- requests

request_viewed : (number : ℕ) (d : Data) → IfRead HasViews (request_in number d)
unfolding request_in
request_viewed number d =
    then_read IsView HasViews (url_in d) _ (url_viewed d)
    (λ view own. then_any HasViews (kind_in d) _
    (λ kind. then_any HasViews (initiator_in path.Initiator d) _
    (λ initiator. then_any HasViews (method_in path.Method d) _
    (λ method. then_any HasViews (tab_in d) _
    (λ tab. then_read FramesViewed HasViews (frames_in d) _ (frames_viewed d)
    (λ frames all. then_any HasViews (headers_in path.RequestHeaders d) _
    (λ asked. then_any HasViews (headers_in path.ResponseHeaders d) _
    (λ answered. record { own = own; frames = all }))))))))

-- ---- commands

-- what a line asks about has views
abbrev AsksViewed : Command → Type 0
AsksViewed blank = Unit {0}
AsksViewed sync = Unit {0}
AsksViewed (request r) = HasViews r
AsksViewed (explain r) = HasViews r
AsksViewed (update new) = Unit {0}
AsksViewed (batch all) = Unit {0}

named_viewed : (number : ℕ) (d : Data) (named : Option CommandName) → IfRead AsksViewed (command_named number d named)
named_viewed number d None = tt
named_viewed number d (Some name.Request) = then_read HasViews AsksViewed (request_in number d) (λ r. Ok (request r)) (request_viewed number d) (λ r has. has)
named_viewed number d (Some name.Explain) = then_read HasViews AsksViewed (request_in number d) (λ r. Ok (explain r)) (request_viewed number d) (λ r has. has)
named_viewed number d (Some name.Sync) = tt
named_viewed number d (Some (name.Update which)) = then_any AsksViewed (of_line (update_in which d)) (λ u. Ok (update u)) (λ u. tt)
named_viewed number d (Some name.Batch) = then_any AsksViewed (batch_in d) (λ us. Ok (batch us)) (λ us. tt)

members_viewed : (number : ℕ) (d : Data) (members : Option Members) → IfRead AsksViewed (command_of_members number d members)
members_viewed number d None = tt
members_viewed number d (Some _) = named_viewed number d (name_in d)

tree_viewed : (number : ℕ) (tree : Option Data) → IfRead AsksViewed (command_of_tree number tree)
unfolding command_in
tree_viewed number None = tt
tree_viewed number (Some d) = members_viewed number d (as_object d)

line_viewed : (number : ℕ) (line : List ℕ) → IfRead AsksViewed (command_of number line)
unfolding command_of
line_viewed number line = cond_both (is_blank line) (Ok blank) (command_of_tree (min number max_lines) (tree_of line)) (IfRead AsksViewed) (λ _. tt) (λ _. tree_viewed (min number max_lines) (tree_of line))

-- in a session without updates, too
with_viewed : (updates : Bool) (read : Result Command LineFault) → IfRead AsksViewed read → IfRead AsksViewed (known_with updates read)
with_viewed true read has = has
with_viewed false (Ok blank) has = tt
with_viewed false (Ok sync) has = tt
with_viewed false (Ok (request r)) has = has
with_viewed false (Ok (explain r)) has = has
with_viewed false (Ok (update new)) has = tt
with_viewed false (Ok (batch all)) has = tt
with_viewed false (Err fault) has = tt

asked_viewed : (read : Result Command LineFault) (r : Request) → IfRead AsksViewed read → asked_about read ≡ Some r → HasViews r
asked_viewed (Ok blank) r has is = absurd (cc is)
asked_viewed (Ok sync) r has is = absurd (cc is)
asked_viewed (Ok (request q)) r has is = let same : q ≡ r = cc is in subst HasViews same has
asked_viewed (Ok (explain q)) r has is = let same : q ≡ r = cc is in subst HasViews same has
asked_viewed (Ok (update new)) r has is = absurd (cc is)
asked_viewed (Ok (batch all)) r has is = absurd (cc is)
asked_viewed (Err fault) r has is = absurd (cc is)

pub known_views : (updates : Bool) (number : ℕ) (line : List ℕ) (r : Request) → asked_about (known_with updates (command_of number line)) ≡ Some r → HasViews r
known_views updates number line r is = asked_viewed (known_with updates (command_of number line)) r (with_viewed updates (command_of number line) (line_viewed number line)) is

pub requests_have_views : RequestsHaveViews
requests_have_views number line r is = asked_viewed (command_of number line) r (line_viewed number line) is
