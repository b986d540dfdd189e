-- The updates that the records of a file hold, made by the rules' ids alone.
use Rattle.std.proofs.Common.{◌≡◌, ℕ, ◌+◌, Bool, true, false, cond, List, [], ◌∷◌, ◌++◌, length, drop, Some, None, is_none, Result, Ok, Err, bytes_eq, refl, sym, ap, ◌∙◌, subst, append-nil}
use Rattle.std.proofs.lemmas.Slice.Eq.{bytes_eq-Decides}
use Rattle.rule_spec.specs.Rule.{Rule}
use Rattle.rule_spec.specs.State.{State}
use Rattle.update_spec.specs.Update.{Update, name_in, dynamic, session, rulesets, static, install, uninstall}
use Rattle.update_spec.specs.Entries.{one, after}
use Rattle.line_spec.specs.declared.line_fault.LineFault.{LineFault}
use Rattle.line_spec.specs.Line.{Command, blank, sync, request, explain, update, batch, command_of}
use Rattle.ruleset_store.specs.declared.update.Update as held
use Rattle.ruleset_store.specs.Seen.{updates_seen}
use Rattle.keep_records.specs.Records.{stands, payloads, end_of}
use Rattle.keep_spec.specs.Kept.{dynamic_of, dynamic_in, update_at, kept, empty_extension, start, state_of, accepts, all_accepted}
use Rattle.keep_spec.specs.Agrees.{AreRead}
use Rattle.keep_laws.proofs.Accepted.{kept_is}
use Rattle.live_rules.specs.Laws.{alone, MadeUpdatesAreAccepted, UpdatesReplaceRules}
use Rattle.rule_keep.specs.Listed.{ReadNext, ReadSoFar, IsFound, list_of}
use Rattle.rule_keep.specs.Replayed.{IsMadeBy, ReplayedSoFar}
use Rattle.rule_keep.proofs.Reading.{read_start, read_more, end_read, end_place}

-- ---- the extension of an update that is read

own_name : (name : List ℕ) (u v : Update) (b : Bool) → bytes_eq (name_in u) name ≡ b → cond b (Some u) None ≡ Some v → name_in v ≡ name
own_name name u v true is e =
    let same : u ≡ v = cc e in
    ap name_in (sym same) ∙ (bytes_eq-Decides (name_in u) name).0 is
own_name name u v false is e = absurd (cc e)

name_of_some : (name : List ℕ) (u v : Update) → dynamic_of name u ≡ Some v → name_in v ≡ name
name_of_some name (dynamic extension remove add) v e = own_name name (dynamic extension remove add) v (bytes_eq extension name) refl e
name_of_some name (session extension remove add) v e = absurd (cc e)
name_of_some name (rulesets extension disable enable) v e = absurd (cc e)
name_of_some name (static extension set disable enable) v e = absurd (cc e)
name_of_some name (install new) v e = absurd (cc e)
name_of_some name (uninstall extension) v e = absurd (cc e)

name_in_some : (name : List ℕ) (r : Result Command LineFault) (v : Update) → dynamic_in name r ≡ Some v → name_in v ≡ name
name_in_some name (Err fault) v e = absurd (cc e)
name_in_some name (Ok blank) v e = absurd (cc e)
name_in_some name (Ok sync) v e = absurd (cc e)
name_in_some name (Ok (request r)) v e = absurd (cc e)
name_in_some name (Ok (explain r)) v e = absurd (cc e)
name_in_some name (Ok (update u)) v e = name_of_some name u v e
name_in_some name (Ok (batch us)) v e = absurd (cc e)

read_name : (name payload : List ℕ) (v : Update) → update_at name payload ≡ Some v → name_in v ≡ name
unfolding update_at
read_name name payload v e = name_in_some name (command_of 1 payload) v e

-- ---- one update after another

pub replayed_start : (name bytes : List ℕ) (Stands : List Update → Type 0) (rules : List Rule) → rules ≡ [] → Stands [] → ReplayedSoFar name bytes Stands 0 0 rules
replayed_start name bytes Stands rules none stands_for = record {
  list = [];
  so_far = read_start name bytes (alone (empty_extension name) rules 0) (ap (λ (l : List Rule). alone (empty_extension name) l 0) none);
  stands = stands_for;
}

module _ (accepted : MadeUpdatesAreAccepted) (left : UpdatesReplaceRules) (name bytes : List ℕ) where
  pub replayed_more : (Stands Stands_next : List Update → Type 0) (place count : ℕ) (old new : List Rule) (payload : List ℕ) (u : Update)
      → ReplayedSoFar name bytes Stands place count old → ReadNext bytes place payload → update_at name payload ≡ Some u → IsMadeBy u count old new
      → ((list : List Update) → Stands list → Stands_next (list ++ u ∷ [])) → ReplayedSoFar name bytes Stands_next (place + (5 + length payload)) (count + 1) new
  replayed_more Stands Stands_next place count old new payload u so_far next is made more =
      let own : made.extension ≡ name = ap name_in (sym made.is) ∙ read_name name payload u is in
      let u_is : u ≡ dynamic name made.remove made.add = made.is ∙ ap (λ (n : List ℕ). dynamic n made.remove made.add) own in
      let before = alone (empty_extension name) old count in
      let taken : accepts before u ≡ true =
      ap (accepts before) u_is ∙ ap is_none (accepted (empty_extension name) made.remove made.add old new count made.less made.made) in
      let left_is : after before (one u) ≡ alone (empty_extension name) new (count + 1) =
      ap (λ (v : Update). after before (one v)) u_is ∙ left (empty_extension name) made.remove made.add old count
      ∙ ap (λ (rules : List Rule). alone (empty_extension name) rules (count + 1)) (sym made.made.is) in
      record {
        list = so_far.list ++ u ∷ [];
        so_far = subst (λ (s : State). ReadSoFar name bytes (so_far.list ++ u ∷ []) (place + (5 + length payload)) s) left_is
            (read_more name bytes so_far.list place before payload u so_far.so_far next is taken);
        stands = more so_far.list so_far.stands;
      }

module _ (name bytes : List ℕ) (list : List Update) (at : ℕ) (store : State) (so_far : ReadSoFar name bytes list at store) (shut : stands (drop at bytes) ≡ false) where
  pub all_kept : kept name bytes ≡ list
  all_kept = kept_is name bytes list (end_read name bytes list at store so_far shut)

  pub all_found : IsFound name bytes at store
  all_found = record {
    read = subst (AreRead name (payloads bytes)) (sym all_kept) (end_read name bytes list at store so_far shut);
    place_is = end_place name bytes list at store so_far shut;
    store_is = so_far.store_is ∙ ap (state_of name) (sym all_kept);
    accepted = ap (all_accepted (start name)) all_kept ∙ so_far.accepted;
  }

-- what was read one after another on stores is the same
pub found_listed : (name bytes : List ℕ) (list : List Update) (place : ℕ) (store : State) → AreRead name (payloads bytes) list → place ≡ end_of bytes → store ≡ state_of name list
    → all_accepted (start name) list ≡ true → IsFound name bytes place store
found_listed name bytes list place store read place_is store_is accepted =
    let list_is = kept_is name bytes list read in
    record {
      read = subst (AreRead name (payloads bytes)) (sym list_is) read;
      place_is = place_is;
      store_is = store_is ∙ ap (state_of name) (sym list_is);
      accepted = ap (all_accepted (start name)) list_is ∙ accepted;
    }

-- ---- what a new `Keep` has

pub list_opened : (name bytes named base : List ℕ) (added : List held.Update) → named ≡ name → base ≡ bytes → added ≡ [] → list_of named base added ≡ kept name bytes
list_opened name bytes named base added named_is base_is none =
    (λ i. kept (named_is i) (base_is i) ++ updates_seen (none i)) ∙ append-nil (kept name bytes)
