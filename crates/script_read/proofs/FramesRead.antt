-- Steps along the frames of a list, up to the first at fault.
use Rattle.std.proofs.Common.{◌≡◌, ℕ, ◌+◌, ◌<◌, ◌≤◌, List, [], ◌∷◌, ◌++◌, length, drop, get_or, Result, Ok, Err, refl, sym, ap, ◌∙◌, append_assoc}
use Rattle.std.proofs.lemmas.List.{drop_more, drop_all, append-nil}
use Rattle.serde_json.specs.Data.{Items, item}
use Rattle.serde_json.specs.declared.value.Value.{Value}
use Rattle.serde_json.specs.View.{view, items_view}
use Rattle.dnr_base.specs.declared.frame.Frame.{Frame}
use Rattle.line_spec.specs.declared.line_fault.LineFault.{LineFault}
use Rattle.line_spec.specs.declared.line_fault.LineFault.TheVariants.{RuleRefused, InBatch, NoMemory}
use Rattle.line_spec.specs.Reading.{and_then}
use Rattle.line_spec.specs.RequestLine.{each_frame, frame_in}
use Rattle.line_spec.specs.IsFault.{IsFaultOf}

-- what was read, before what is still to be read
abbrev pub before : List Frame → Result (List Frame) LineFault → Result (List Frame) LineFault
before done rest = and_then rest (λ frames. Ok (done ++ frames))

pub record AreReadSoFar (values : List Value) (done : List Frame) (next : ℕ) : Type 0 where
  pub same : each_frame (items_view values) ≡ before done (each_frame (items_view (drop next values)))

before-nil : (rest : Result (List Frame) LineFault) → rest ≡ before [] rest
before-nil (Ok frames) = refl
before-nil (Err fault) = refl

pub frames_begin : (values : List Value) → AreReadSoFar values [] 0
frames_begin values = record { same = before-nil _ }

before-cons : (done : List Frame) (frame : Frame) (rest : Result (List Frame) LineFault) → before done (and_then rest (λ frames. Ok (frame ∷ frames))) ≡ before (done ++ frame ∷ []) rest
before-cons done frame (Ok frames) = ap Ok (sym (append_assoc done (frame ∷ []) frames))
before-cons done frame (Err fault) = refl

rest_is : (values : List Value) (next : ℕ) (value : Value) → next < length values → value ≡ get_or values next value → items_view (drop next values) ≡ item (view value) (items_view (drop (next + 1) values))
rest_is values next value inside is =
    ap items_view (drop_more values next value inside) ∙ ap (λ v. item (view v) (items_view (drop (next + 1) values))) (sym is)

abbrev with_first : Items → Result Frame LineFault → Result (List Frame) LineFault
with_first items reading = and_then reading (λ frame. and_then (each_frame items) (λ frames. Ok (frame ∷ frames)))

step : (values : List Value) (next : ℕ) (value : Value) (done : List Frame) (reading : Result Frame LineFault)
    → next < length values → value ≡ get_or values next value → AreReadSoFar values done next → frame_in (view value) ≡ reading
    → each_frame (items_view values) ≡ before done (with_first (items_view (drop (next + 1) values)) reading)
step values next value done reading inside is so_far read =
    so_far.same ∙ ap (λ items. before done (each_frame items)) (rest_is values next value inside is)
    ∙ ap (λ r. before done (with_first (items_view (drop (next + 1) values)) r)) read

pub frames_go : (values : List Value) (next : ℕ) (value : Value) (done : List Frame) (frame : Frame)
    → next < length values → value ≡ get_or values next value → AreReadSoFar values done next → frame_in (view value) ≡ Ok frame → AreReadSoFar values (done ++ frame ∷ []) (next + 1)
frames_go values next value done frame inside is so_far read = record {
  same = step values next value done (Ok frame) inside is so_far read
      ∙ before-cons done frame (each_frame (items_view (drop (next + 1) values)));
}

pub frames_stop : (values : List Value) (next : ℕ) (value : Value) (done : List Frame) (fault : LineFault)
    → next < length values → value ≡ get_or values next value → AreReadSoFar values done next → IsFaultOf (frame_in (view value)) fault → IsFaultOf (each_frame (items_view values)) fault
frames_stop values next value done (RuleRefused refusal) inside is so_far h = absurd h
frames_stop values next value done (InBatch place refusal) inside is so_far h = absurd h
frames_stop values next value done NoMemory inside is so_far h = h
frames_stop values next value done fault inside is so_far h = step values next value done (Err fault) inside is so_far h

pub frames_end : (values : List Value) (next : ℕ) (done : List Frame)
    → length values ≤ next → AreReadSoFar values done next → each_frame (items_view values) ≡ Ok done
frames_end values next done end so_far =
    so_far.same ∙ ap (λ vs. before done (each_frame (items_view vs))) (drop_all next values end)
    ∙ ap Ok (append-nil done)
