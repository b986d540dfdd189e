-- What a line means for its round that is at fault.
use Rattle.std.proofs.Common.{◌≡◌, ◌≢◌, ◌⊎◌, ℕ, List, Bool, true, false, Option, Some, None, Result, Ok, Err, refl, sym, ap, inl, inr, subst}
use Rattle.std.specs.Prelude.{if◌then◌else◌, min}
use Rattle.serde_json.specs.Data.{Data, Members}
use Rattle.serde_json.specs.Find.{as_object}
use Rattle.dnr_spec.specs.Lines.{max_lines, is_blank}
use Rattle.json_spec.specs.Json.{tree_of}
use Rattle.update_spec.specs.Update.{Update}
use Rattle.line_spec.specs.declared.command_name.CommandName.{CommandName}
use Rattle.line_spec.specs.declared.command_name.CommandName.TheVariants as asked
use Rattle.line_spec.specs.declared.command_name.UpdateName.{UpdateName}
use Rattle.line_spec.specs.declared.line_fault.LineFault.{LineFault}
use Rattle.line_spec.specs.declared.line_fault.LineFault.TheVariants.{BadJson, BadCommand, BadUrl, RuleRefused, InBatch, NoMemory}
use Rattle.line_spec.specs.Batch.{batch_in}
use Rattle.line_spec.specs.CommandName.{name_in}
use Rattle.line_spec.specs.IsFault.{IsFaultOfLine}
use Rattle.line_spec.specs.Line.{Command, blank, update, batch, of_line, command_named, command_of_members, command_in, command_of_tree, command_of}
use Rattle.line_spec.specs.Reading.{and_then}
use Rattle.line_spec.specs.Stops.{StopsInCommand, StopsIn, StopsInLine}
use Rattle.line_spec.specs.Updates.{update_in}
use Rattle.session_spec.specs.Rounds.{is_sync, asks}
use Rattle.session_serve.specs.Round.{IsKindOf}
use Rattle.session_serve.specs.declared.line_kind.LineKind.TheVariants.{Other}
use Rattle.session_serve.proofs.Told.{line_faulty}

-- an object that asks for an update or for several
abbrev AsksUpdates : Option CommandName → Type 0
AsksUpdates name = ((u : UpdateName) × (name ≡ Some (asked.Update u))) ⊎ (name ≡ Some asked.Batch)

stops_there : (d : Data) (fault : LineFault) → StopsInCommand d fault → AsksUpdates (name_in d)
stops_there d BadJson stops = absurd stops
stops_there d (BadCommand path) stops = absurd stops
stops_there d (BadUrl path why) stops = absurd stops
stops_there d (RuleRefused refusal) stops = inl (stops.update, stops.named)
stops_there d (InBatch place refusal) stops = inr stops.named
stops_there d NoMemory stops = absurd stops

update_other : (read : Result Update LineFault) → IsKindOf (and_then read (λ u. Ok (update u))) Other
update_other (Ok u) = (refl, refl)
update_other (Err fault) = (refl, refl)

batch_other : (read : Result (List Update) LineFault) → IsKindOf (and_then read (λ us. Ok (batch us))) Other
batch_other (Ok us) = (refl, refl)
batch_other (Err fault) = (refl, refl)

named_other : (number : ℕ) (d : Data) (name : Option CommandName) → AsksUpdates name → IsKindOf (command_named number d name) Other
named_other number d name (inl u) = subst (λ (n : Option CommandName). IsKindOf (command_named number d n) Other) (sym u.1) (update_other (of_line (update_in u.0 d)))
named_other number d name (inr is) = subst (λ (n : Option CommandName). IsKindOf (command_named number d n) Other) (sym is) (batch_other (batch_in d))

members_other : (number : ℕ) (d : Data) (members : Option Members) → AsksUpdates (name_in d) → IsKindOf (command_of_members number d members) Other
members_other number d None names = (refl, refl)
members_other number d (Some members) names = named_other number d (name_in d) names

tree_other : (number : ℕ) (tree : Option Data) (fault : LineFault) → StopsIn tree fault → IsKindOf (command_of_tree number tree) Other
unfolding command_in
tree_other number None fault stops = absurd stops
tree_other number (Some d) fault stops = members_other number d (as_object d) (stops_there d fault stops)

blank_other : (b : Bool) (read : Result Command LineFault) → IsKindOf read Other → IsKindOf (if b then Ok blank else read) Other
blank_other true read is = (refl, refl)
blank_other false read is = is

pub stopped_other : (number : ℕ) (line : List ℕ) (fault : LineFault) → StopsInLine line fault → IsKindOf (command_of number line) Other
unfolding command_of
stopped_other number line fault stops = blank_other (is_blank line) (command_of_tree (min number max_lines) (tree_of line)) (tree_other (min number max_lines) (tree_of line) fault stops)

either_other : (number : ℕ) (line : List ℕ) (rose : Type 0) (fault : LineFault) → (rose × StopsInLine line fault) ⊎ (command_of number line ≡ Err fault) → IsKindOf (command_of number line) Other
either_other number line rose fault (inl stops) = stopped_other number line fault stops.1
either_other number line rose fault (inr reads) = subst (λ (r : Result Command LineFault). IsKindOf r Other) (sym reads) (refl, refl)

pub fault_other : (number : ℕ) (line : List ℕ) (rose : Type 0) (fault : LineFault) → fault ≢ NoMemory → IsFaultOfLine number line rose fault → IsKindOf (command_of number line) Other
fault_other number line rose fault named why = either_other number line rose fault (line_faulty number line rose fault named why)
