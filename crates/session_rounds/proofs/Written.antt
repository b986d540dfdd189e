-- What the writer says, line by line.
use Rattle.std.proofs.Common.{◌≡◌, ℕ, ◌+◌, ◌<◌, ◌≤◌, List, [], ◌∷◌, ◌++◌, length, drop, get_or, None, Result, Ok, Err, OnOk, refl, sym, ap, ◌∙◌, inl, inr, subst, append_assoc, append-nil}
use Rattle.std.proofs.lemmas.List.{drop_more, drop_all}
use Rattle.generation.specs.Basis.{Basis}
use Rattle.rule_spec.specs.State.{State}
use Rattle.update_spec.specs.Update as changes
use Rattle.update_spec.specs.Judge.{judge_update}
use Rattle.update_spec.specs.Entries.{Entry, batch as together, judge, after, replay}
use Rattle.update_spec.specs.declared.refusal.Refusal.{Refusal}
use Rattle.line_spec.specs.Line.{sync, update, batch}
use Rattle.ruleset_store.specs.Seen.{IsRefusalOf, IsRefusalAt}
use Rattle.session_serve.specs.Told.{IsNamed}
use Rattle.session_serve.proofs.Told.{command_with, sync_told, accepted_told, refusal_told, batch_refusal_told}
use Rattle.session_spec.specs.Output.{accepted_line, sync_line, refused_line, refused_batch_line}
use Rattle.session_rounds.specs.Writing.{writing, Replied, WriterLine, WriterSays}
use Rattle.session_rounds.specs.declared.read_line.ReadLine.{ReadLine}

-- ---- one line

replay_more : (state : State) (list : List Entry) (entry : Entry) → replay state (list ++ entry ∷ []) ≡ after (replay state list) entry
replay_more state [] entry = refl
replay_more state (first ∷ list) entry = replay_more (after state first) list entry

pub count_said : {T E : Type 0} (result : Result T E) (opening : Basis) (number count : ℕ) (list : List Entry) (before now : List ℕ) → count ≡ (replay opening.state list).count
    → OnOk result (now ≡ before ++ sync_line number count) → OnOk result (Replied opening number (Ok sync) list before now list)
count_said (Err e) opening number count list before now counted grown = tt
count_said (Ok x) opening number count list before now counted grown = record {
  told = sync_told {T = Unit {0}} {E = Unit {0}} (Ok tt) (writing opening) (replay opening.state list) number count before now refl counted grown;
  goes_on = inl refl;
}

pub entry_said : {T E : Type 0} (result : Result T E) (opening : Basis) (number : ℕ) (entry : Entry) (list middle staged next : List Entry) (before now : List ℕ)
    → judge (replay opening.state list) entry ≡ None → middle ≡ list → staged ≡ entry ∷ [] → OnOk result (next ≡ middle ++ staged)
    → OnOk result (now ≡ before ++ accepted_line number (replay opening.state next).count) → OnOk result (Replied opening number (Ok (command_with entry)) list before now next)
entry_said (Err e) opening number entry list middle staged next before now passes stays there grows grown = tt
entry_said (Ok x) opening number entry list middle staged next before now passes stays there grows grown =
    let is : next ≡ list ++ entry ∷ [] = grows ∙ ap (λ (l : List Entry). l ++ staged) stays ∙ ap (λ (l : List Entry). list ++ l) there in
    record {
      told = accepted_told {T = Unit {0}} {E = Unit {0}} (Ok tt) (writing opening) (replay opening.state list) (replay opening.state next) number entry before now refl passes
          (ap (replay opening.state) is ∙ replay_more opening.state list entry) grown;
      goes_on = inr (entry, is);
    }

pub update_refused : {T E : Type 0} (result : Result T E) (opening : Basis) (number : ℕ) (u : changes.Update) (why : Refusal) (list next : List Entry) (before now : List ℕ)
    → IsRefusalOf (judge_update (replay opening.state list) u) why → IsNamed why → next ≡ list → OnOk result (now ≡ before ++ refused_line number why)
    → OnOk result (Replied opening number (Ok (update u)) list before now next)
update_refused (Err e) opening number u why list next before now judged named stays grown = tt
update_refused (Ok x) opening number u why list next before now judged named stays grown = rw stays (record {
  told = refusal_told {T = Unit {0}} {E = Unit {0}} (Ok tt) (writing opening) (replay opening.state list) number u why before now refl judged (named, grown);
  goes_on = inl refl;
})

pub batch_refused : {T E : Type 0} (result : Result T E) (opening : Basis) (number place : ℕ) (us : List changes.Update) (why : Refusal) (list next : List Entry) (before now : List ℕ)
    → IsRefusalAt (judge (replay opening.state list) (together us)) place why → IsNamed why → next ≡ list → OnOk result (now ≡ before ++ refused_batch_line number place why)
    → OnOk result (Replied opening number (Ok (batch us)) list before now next)
batch_refused (Err e) opening number place us why list next before now judged named stays grown = tt
batch_refused (Ok x) opening number place us why list next before now judged named stays grown = rw stays (record {
  told = batch_refusal_told {T = Unit {0}} {E = Unit {0}} (Ok tt) (writing opening) (replay opening.state list) number place us why before now refl judged (named, grown);
  goes_on = inl refl;
})

-- ---- all lines

-- what is said to the lines from this place on makes what is said to all
abbrev pub WrittenSoFar : Basis → List ReadLine → List Entry → ℕ → List Entry → List (List ℕ) → Type 0
WrittenSoFar opening lines first place list texts =
    (others : List (List ℕ)) (last : List Entry) → WriterSays opening list (drop place lines) others last → WriterSays opening first lines (texts ++ others) last

pub nothing_written : (opening : Basis) (lines : List ReadLine) (first : List Entry) (texts : List (List ℕ)) → texts ≡ [] → WrittenSoFar opening lines first 0 first texts
nothing_written opening lines first texts none others last says = rw none says

pub one_written : (opening : Basis) (lines : List ReadLine) (first : List Entry) (place : ℕ) (line : ReadLine) (list next : List Entry) (texts : List (List ℕ)) (text : List ℕ)
    → place < length lines → line ≡ get_or lines place line → WrittenSoFar opening lines first place list texts → WriterLine opening line list text next
    → WrittenSoFar opening lines first (place + 1) next (texts ++ text ∷ [])
one_written opening lines first place line list next texts text inside is so_far said others last says =
    let step : WriterSays opening list (line ∷ drop (place + 1) lines) (text ∷ others) last = record { text = text; next = next; others = others; all = refl; first = said; rest = says } in
    let here : WriterSays opening list (get_or lines place line ∷ drop (place + 1) lines) (text ∷ others) last = subst (λ (l : ReadLine). WriterSays opening list (l ∷ drop (place + 1) lines) (text ∷ others) last) is step in
    let there : WriterSays opening list (drop place lines) (text ∷ others) last =
    subst (λ (ls : List ReadLine). WriterSays opening list ls (text ∷ others) last) (sym (drop_more lines place line inside)) here in
    subst (λ (ts : List (List ℕ)). WriterSays opening first lines ts last) (sym (append_assoc texts (text ∷ []) others)) (so_far (text ∷ others) last there)

pub all_written : (opening : Basis) (lines : List ReadLine) (first : List Entry) (place : ℕ) (list : List Entry) (texts : List (List ℕ)) → length lines ≤ place
    → WrittenSoFar opening lines first place list texts → WriterSays opening first lines texts list
all_written opening lines first place list texts past so_far =
    subst (λ (ts : List (List ℕ)). WriterSays opening first lines ts list) (append-nil texts)
    (so_far [] list (subst (λ (ls : List ReadLine). WriterSays opening list ls [] list) (sym (drop_all place lines past)) (refl, refl)))
