-- What the writer says to a line, apart from updates that it accepts.
use Rattle.std.proofs.Common.{◌≡◌, ℕ, List, ◌++◌, Result, Ok, Err, OnOk, refl, sym, inl, append-nil}
use Rattle.generation.specs.Basis.{Basis}
use Rattle.line_spec.specs.Line.{blank, update, batch}
use Rattle.line_spec.specs.declared.line_fault.LineFault.{LineFault}
use Rattle.ruleset_store.specs.Seen.{IsRefusalOf, IsRefusalAt}
use Rattle.session_rounds.proofs.Written.{update_refused, batch_refused}
use Rattle.session_rounds.specs.Writing.{Replied}
use Rattle.session_serve.specs.Told.{IsNamed}
use Rattle.session_spec.specs.Output.{bad_line, refused_line, refused_batch_line}
use Rattle.session_spec.specs.Said.{nothing, bad}
use Rattle.update_spec.specs.Entries.{Entry, batch as together, judge, replay}
use Rattle.update_spec.specs.Judge.{judge_update}
use Rattle.update_spec.specs.Update as changes
use Rattle.update_spec.specs.declared.refusal.Refusal.{Refusal}

pub on_ok : {T E : Type 0} (result : Result T E) (P : Type 0) → P → OnOk result P
on_ok (Ok x) P is = is
on_ok (Err e) P is = tt

pub blank_said : (opening : Basis) (number : ℕ) (list : List Entry) (text : List ℕ) → Replied opening number (Ok blank) list text text list
blank_said opening number list text = record {
  told = record {
    told = nothing;
    says = λ seat. (refl, refl);
    appended = sym (append-nil text);
    quiet = λ place. refl;
    calm = refl;
  };
  goes_on = inl refl;
}

pub bad_said : {T E : Type 0} (result : Result T E) (opening : Basis) (number : ℕ) (fault : LineFault) (list : List Entry) (before now : List ℕ) → OnOk result (now ≡ before ++ bad_line number fault) → OnOk result (Replied opening number (Err fault) list before now list)
bad_said (Err e) opening number fault list before now grown = tt
bad_said (Ok x) opening number fault list before now grown = record {
  told = record {
    told = bad fault;
    says = λ seat. (refl, refl);
    appended = grown;
    quiet = λ place. refl;
    calm = refl;
  };
  goes_on = inl refl;
}

pub update_not_made : {T E : Type 0} (result : Result T E) (opening : Basis) (number : ℕ) (u : changes.Update) (why : Refusal) (list next : List Entry) (before now : List ℕ)
    → IsRefusalOf (judge_update (replay opening.state list) u) why → next ≡ list → OnOk result (IsNamed why × (now ≡ before ++ refused_line number why))
    → OnOk result (Replied opening number (Ok (update u)) list before now next)
update_not_made (Err e) opening number u why list next before now judged stays said = tt
update_not_made (Ok x) opening number u why list next before now judged stays said =
    update_refused {T = Unit {0}} {E = Unit {0}} (Ok tt) opening number u why list next before now judged said.0 stays said.1

pub batch_not_made : {T E : Type 0} (result : Result T E) (opening : Basis) (number place : ℕ) (us : List changes.Update) (why : Refusal) (list next : List Entry) (before now : List ℕ)
    → IsRefusalAt (judge (replay opening.state list) (together us)) place why → next ≡ list → OnOk result (IsNamed why × (now ≡ before ++ refused_batch_line number place why))
    → OnOk result (Replied opening number (Ok (batch us)) list before now next)
batch_not_made (Err e) opening number place us why list next before now judged stays said = tt
batch_not_made (Ok x) opening number place us why list next before now judged stays said =
    batch_refused {T = Unit {0}} {E = Unit {0}} (Ok tt) opening number place us why list next before now judged said.0 stays said.1
