-- What is answered of a tree is answered of its line.
use Rattle.std.proofs.Common.{◌≡◌, ℕ, ◌≤◌, List, false, min, Result, Ok, Err, sym, ap, ◌∙◌, subst, arith, if◌then◌else◌}
use Rattle.std.specs.Result.{IfOk}
use Rattle.dnr_spec.specs.Lines.{max_lines, is_blank}
use Rattle.json_spec.specs.Json.{tree_of}
use Rattle.line_spec.specs.declared.line_fault.LineFault.{LineFault}
use Rattle.update_spec.specs.Update.{Update}
use Rattle.line_spec.specs.declared.command_name.CommandName.{CommandName}
use Rattle.line_spec.specs.declared.command_name.CommandName.TheVariants as name
use Rattle.line_spec.specs.Batch.{batch_in}
use Rattle.line_spec.specs.Line.{Command, blank, update, batch, of_line, command_of, command_of_tree}
use Rattle.line_spec.specs.Reading.{and_then}
use Rattle.line_spec.specs.Updates.{update_in}
use Rattle.line_spec.specs.IsFault.{MayRefuse, IsFaultOf, IsFaultOfLine}
use Rattle.line_spec.specs.Stops.{StopsIn}
use Rattle.script_read.specs.declared.command.Command as seen
use Rattle.script_read.specs.declared.asked.Asked.{Asked}
use Rattle.script_read.specs.declared.asked.Asked.TheVariants as asked
use Rattle.script_read.specs.Asked.{Asks, IsAsked, AreUpdates, AsksForUpdates, AsksFor}
use Rattle.script_read.specs.Seen.{command_seen}
use Rattle.script_read.proofs.LinesRead.{asked_for}
use Rattle.script_read.proofs.Stops.{may_refuse}

of_tree : (n : ℕ) (bytes : List ℕ) → is_blank bytes ≡ false → n ≤ max_lines → command_of n bytes ≡ command_of_tree n (tree_of bytes)
unfolding command_of
of_tree n bytes full small =
    let same : min n max_lines ≡ n = omega (arith, small) in
    ap (λ b. if b then Ok blank else command_of_tree (min n max_lines) (tree_of bytes)) full ∙ ap (λ k. command_of_tree k (tree_of bytes)) same

pub line_read : (n : ℕ) (bytes : List ℕ) (command : Command) → is_blank bytes ≡ false → n ≤ max_lines → command_of_tree n (tree_of bytes) ≡ Ok command → command_of n bytes ≡ Ok command
line_read n bytes command full small h = of_tree n bytes full small ∙ h

pub all_read : (n : ℕ) (bytes : List ℕ) → is_blank bytes ≡ false → n ≤ max_lines → (result : Result seen.Command LineFault)
    → IfOk result (λ c. command_of_tree n (tree_of bytes) ≡ Ok (command_seen c)) → IfOk result (λ c. command_of n bytes ≡ Ok (command_seen c))
all_read n bytes full small (Ok c) h = line_read n bytes (command_seen c) full small h
all_read n bytes full small (Err fault) h = tt

pub line_stops : (n : ℕ) (bytes : List ℕ) (rose : Type 0) (fault : LineFault) → is_blank bytes ≡ false → n ≤ max_lines
    → MayRefuse (command_of_tree n (tree_of bytes)) (λ f. rose × StopsIn (tree_of bytes) f) fault → IsFaultOfLine n bytes rose fault
line_stops n bytes rose fault full small h = subst (λ r. MayRefuse r (λ f. rose × StopsIn (tree_of bytes) f) fault) (sym (of_tree n bytes full small)) h

pub line_at_fault : (n : ℕ) (bytes : List ℕ) (rose : Type 0) (fault : LineFault) → is_blank bytes ≡ false → n ≤ max_lines
    → IsFaultOf (command_of_tree n (tree_of bytes)) fault → IsFaultOfLine n bytes rose fault
line_at_fault n bytes rose fault full small h =
    line_stops n bytes rose fault full small (may_refuse (command_of_tree n (tree_of bytes)) (λ f. rose × StopsIn (tree_of bytes) f) fault h)

-- ---- what a line asks for

one_is : (read : Result Update LineFault) → AreUpdates (and_then read (λ u. Ok (update u)))
one_is (Ok u) = tt
one_is (Err fault) = tt

all_are : (read : Result (List Update) LineFault) → AreUpdates (and_then read (λ us. Ok (batch us)))
all_are (Ok us) = tt
all_are (Err fault) = tt

module _ (n : ℕ) (bytes : List ℕ) (full : is_blank bytes ≡ false) (small : n ≤ max_lines) where
  updates_are : (c : CommandName) (asks : Asks (tree_of bytes) c) → AreUpdates (command_of_tree n (tree_of bytes)) → AsksForUpdates n bytes c
  updates_are c asks are = record { written = full; asks = asks; updates = subst AreUpdates (sym (of_tree n bytes full small)) are }

  pub line_asks : (answer : Asked) → IsAsked n (tree_of bytes) answer → AsksFor n bytes answer
  line_asks (asked.Command command) h = (line_read n bytes (command_seen command) full small h.0, h.1)
  line_asks (asked.Update which) h =
      updates_are (name.Update which) h (subst AreUpdates (sym (asked_for n (tree_of bytes) (name.Update which) h)) (one_is (of_line (update_in which h.d))))
  line_asks asked.Batch h = updates_are name.Batch h (subst AreUpdates (sym (asked_for n (tree_of bytes) name.Batch h)) (all_are (batch_in h.d)))

  pub line_refused : (fault : LineFault) → IsFaultOf (command_of_tree n (tree_of bytes)) fault → IsFaultOf (command_of n bytes) fault
  line_refused fault h = subst (λ r. IsFaultOf r fault) (sym (of_tree n bytes full small)) h
