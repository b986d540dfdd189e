-- What a line asks for whose bytes lack a word: without `cmd` a request at most, and without `sync` no sync.
use Rattle.std.proofs.Common.{◌≡◌, ◌≢◌, ℕ, List, Bool, true, false, Option, Some, None, Result, Ok, Err, option_map, refl, min}
use Rattle.std.specs.Prelude.{codes, IfSome, if◌then◌else◌}
use Rattle.std.specs.Str.{bytes_eq}
use Rattle.std.proofs.lemmas.Slice.Eq.{bytes_eq-Decides}
use Rattle.serde_json.specs.Data as tree
use Rattle.serde_json.specs.Data.{Data, Members}
use Rattle.serde_json.specs.Find.{get, as_object}
use Rattle.dnr_base.specs.declared.request.Request.{Request}
use Rattle.dnr_spec.specs.Lines.{max_lines, is_blank}
use Rattle.json_spec.specs.Json.{tree_of}
use Rattle.line_spec.specs.declared.command_name.CommandName.{CommandName}
use Rattle.line_spec.specs.declared.command_name.CommandName.TheVariants as name
use Rattle.line_spec.specs.declared.command_name.UpdateName.{UpdateName}
use Rattle.line_spec.specs.declared.command_path.CommandPath.TheVariants as path
use Rattle.line_spec.specs.declared.line_fault.LineFault.{LineFault}
use Rattle.line_spec.specs.declared.line_fault.LineFault.TheVariants.{BadJson, BadCommand}
use Rattle.line_spec.specs.CommandName as by_name
use Rattle.line_spec.specs.CommandName.{name_from, name_in}
use Rattle.line_spec.specs.Batch.{batch_in}
use Rattle.line_spec.specs.Reading.{and_then}
use Rattle.line_spec.specs.RequestLine.{request_in}
use Rattle.line_spec.specs.Updates.{update_in}
use Rattle.line_spec.specs.Line.{Command, blank, sync, request, explain, update, batch, of_line, command_named, command_of_members, command_in, command_of_tree, command_of}
use Rattle.lines_ahead.specs.Plain.{IsPlain, HasNoString, IsRequestAtMost}
use Rattle.lines_ahead.proofs.Bytes.{cmd, plain_has_none}
use Rattle.lines_ahead.proofs.Trees.{HasNone, text_has_none}

-- the text that asks for a sync
abbrev pub sync_word : List ℕ
sync_word = codes "sync"

-- ---- from the trees that lack a word to the lines that do

-- What holds of an empty line, of one that is no JSON or no object, and of what the tree asks for by its `cmd`, holds of
-- the line.
module _ (P : Result Command LineFault → Type 0) (empty : P (Ok blank)) (no_json : P (Err BadJson)) (no_object : P (Err (BadCommand path.Cmd))) where
  object_by : (number : ℕ) (d : Data) (ms : Option Members) → P (command_named number d (name_in d)) → P (command_of_members number d ms)
  object_by number d None named = no_object
  object_by number d (Some ms) named = named

  tree_by : (w : List ℕ) (number : ℕ) (read : Option Data) → IfSome read (HasNone w) → ((d : Data) → HasNone w d → P (command_named number d (name_in d))) → P (command_of_tree number read)
  unfolding command_in
  tree_by w number None none named = no_json
  tree_by w number (Some d) none named = object_by number d (as_object d) (named d none)

  line_by : (is_empty : Bool) (number : ℕ) (read : Option Data) → P (command_of_tree number read) → P (if is_empty then Ok blank else command_of_tree number read)
  line_by true number read h = empty
  line_by false number read h = h

  lacking : (w : List ℕ) (number : ℕ) (bytes : List ℕ) → HasNoString w bytes → ((n : ℕ) (d : Data) → HasNone w d → P (command_named n d (name_in d))) → P (command_of number bytes)
  unfolding command_of
  lacking w number bytes none named = line_by (is_blank bytes) (min number max_lines) (tree_of bytes) (tree_by w (min number max_lines) (tree_of bytes) (text_has_none w bytes none) (named (min number max_lines)))

-- ---- without `cmd`

-- the reading of a request gives it or a fault
request_or_fault : (read : Result Request LineFault) → IsRequestAtMost (and_then read (λ r. Ok (request r)))
request_or_fault (Ok r) = tt
request_or_fault (Err fault) = tt

-- where nothing is at `cmd`, a request is asked for
unnamed_at_most : (number : ℕ) (d : Data) (found : Option Data) → found ≡ None → IsRequestAtMost (command_named number d (name_from found))
unnamed_at_most number d None none = request_or_fault (request_in number d)
unnamed_at_most number d (Some name) none = absurd (cc)

-- plain bytes ask for a request at most
pub plain_at_most : (number : ℕ) (bytes : List ℕ) → IsPlain bytes → IsRequestAtMost (command_of number bytes)
plain_at_most number bytes plain = lacking IsRequestAtMost tt tt tt cmd number bytes (plain_has_none bytes plain) (λ n d none. unnamed_at_most n d (get cmd d) none.0)

-- ---- without `sync`

-- it asks for no sync
abbrev IsNoSync : Result Command LineFault → Type 0
IsNoSync read = read ≢ Ok sync

-- the text that names a sync is its word
sync_by : (r e s b : Bool) (other : Option UpdateName)
    → (if r then Some name.Request else (if e then Some name.Explain else (if s then Some name.Sync else (if b then Some name.Batch else option_map name.Update other)))) ≡ Some name.Sync → s ≡ true
sync_by true e s b other is = absurd (cc)
sync_by false true s b other is = absurd (cc)
sync_by false false true b other is = refl
sync_by false false false true other is = absurd (cc)
sync_by false false false false None is = absurd (cc)
sync_by false false false false (Some u) is = absurd (cc)

named_sync : (text : List ℕ) → by_name.command_named text ≡ Some name.Sync → text ≡ sync_word
named_sync text is = (bytes_eq-Decides text sync_word).0 (sync_by _ _ _ _ _ is)

-- so what is found at `cmd` names none where it is another
other_name : (found : Option Data) → found ≢ Some (tree.string sync_word) → name_from found ≢ Some name.Sync
other_name None other is = absurd (cc is)
other_name (Some (tree.string text)) other is = let word : text ≡ sync_word = named_sync text is in other (cc word)
other_name (Some tree.null) other is = absurd (cc is)
other_name (Some (tree.boolean b)) other is = absurd (cc is)
other_name (Some (tree.number n)) other is = absurd (cc is)
other_name (Some (tree.array ds)) other is = absurd (cc is)
other_name (Some (tree.object ms)) other is = absurd (cc is)

-- no other name asks for a sync
never_sync : {X : Type 0} (read : Result X LineFault) (f : X → Command) → ((x : X) → f x ≢ sync) → IsNoSync (and_then read (λ x. Ok (f x)))
never_sync (Ok x) f other is = other x (cc is)
never_sync (Err fault) f other is = absurd (cc is)

named_no_sync : (number : ℕ) (d : Data) (asked : Option CommandName) → asked ≢ Some name.Sync → IsNoSync (command_named number d asked)
named_no_sync number d None other = λ is. absurd (cc is)
named_no_sync number d (Some name.Request) other = never_sync (request_in number d) request (λ r is. absurd (cc is))
named_no_sync number d (Some name.Explain) other = never_sync (request_in number d) explain (λ r is. absurd (cc is))
named_no_sync number d (Some name.Sync) other = λ is. other refl
named_no_sync number d (Some (name.Update which)) other = never_sync (of_line (update_in which d)) update (λ u is. absurd (cc is))
named_no_sync number d (Some name.Batch) other = never_sync (batch_in d) batch (λ us is. absurd (cc is))

-- bytes in which `sync` stands nowhere as a string are no sync
pub no_sync : (number : ℕ) (bytes : List ℕ) → HasNoString sync_word bytes → command_of number bytes ≢ Ok sync
no_sync number bytes none =
    lacking IsNoSync (λ is. absurd (cc is)) (λ is. absurd (cc is)) (λ is. absurd (cc is)) sync_word number bytes none (λ n d lacks. named_no_sync n d (name_in d) (other_name (get cmd d) (lacks.1 cmd)))
