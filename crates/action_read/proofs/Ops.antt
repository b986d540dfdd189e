-- Steps along the header changes of a list, each of which is read.
use Rattle.std.proofs.Common.{◌≡◌, ℕ, ◌+◌, ◌<◌, ◌≤◌, List, [], ◌∷◌, ◌++◌, length, drop, get_or, refl, sym, ap, subst, ◌∙◌, append_assoc}
use Rattle.std.specs.Prelude.{Result, Ok, Err}
use Rattle.std.proofs.lemmas.List.{drop_more, drop_all, append-nil}
use Rattle.dnr_base.specs.declared.direction.Direction.{Direction}
use Rattle.dnr_spec.specs.declared.header_refusal.HeaderRefusal.{HeaderRefusal}
use Rattle.dnr_spec.specs.Headers.{HeaderOp}
use Rattle.rule_spec.specs.declared.rule_refusal.RuleRefusal.{RuleRefusal}
use Rattle.rule_spec.specs.declared.rule_refusal.RuleRefusal.TheVariants.{HostFault, NoMemory}
use Rattle.json_spec.specs.RuleAction.{read_change, or_bad_change, or_bad_op, with_op, ops_of, ops_in}
use Rattle.json_spec.specs.MayRefuse.{IsRefused}
use Rattle.action_read.specs.declared.headers.Change.{Change}
use Rattle.action_read.specs.Changes.{change_seen, changes_seen}

-- what was read, before what is still to be read
abbrev pub before : List HeaderOp → Result (List HeaderOp) HeaderRefusal → Result (List HeaderOp) HeaderRefusal
before done (Ok ops) = Ok (done ++ ops)
before done (Err refusal) = Err refusal

pub record AreReadSoFar (direction : Direction) (changes : List Change) (done : List HeaderOp) (next : ℕ) : Type 0 where
  pub same : ops_of direction (changes_seen changes) ≡ before done (ops_of direction (changes_seen (drop next changes)))

before-nil : (rest : Result (List HeaderOp) HeaderRefusal) → rest ≡ before [] rest
before-nil (Ok ops) = refl
before-nil (Err refusal) = refl

pub ops_begin : (direction : Direction) (changes : List Change) → AreReadSoFar direction changes [] 0
ops_begin direction changes = record { same = before-nil _ }

before-op : (done : List HeaderOp) (op : HeaderOp) (rest : Result (List HeaderOp) HeaderRefusal) → before done (with_op (Ok op) rest) ≡ before (done ++ op ∷ []) rest
before-op done op (Ok ops) = ap Ok (sym (append_assoc done (op ∷ []) ops))
before-op done op (Err refusal) = refl

-- the next change, and then the rest
next_op : (direction : Direction) (changes : List Change) (next : ℕ) (change : Change) → next < length changes → change ≡ get_or changes next change
    → ops_of direction (changes_seen (drop next changes)) ≡ with_op (read_change direction (change_seen change)) (ops_of direction (changes_seen (drop (next + 1) changes)))
next_op direction changes next change inside is =
    ap (λ rest. ops_of direction (changes_seen rest)) (drop_more changes next change inside)
    ∙ ap (λ other. with_op (read_change direction (change_seen other)) (ops_of direction (changes_seen (drop (next + 1) changes)))) (sym is)

pub ops_go : (direction : Direction) (changes : List Change) (next : ℕ) (change : Change) (done : List HeaderOp) (op : HeaderOp)
    → next < length changes → change ≡ get_or changes next change → AreReadSoFar direction changes done next → read_change direction (change_seen change) ≡ Ok op → AreReadSoFar direction changes (done ++ op ∷ []) (next + 1)
ops_go direction changes next change done op inside is so_far read =
    let rest = ops_of direction (changes_seen (drop (next + 1) changes)) in
    record {
      same = so_far.same ∙ ap (before done) (next_op direction changes next change inside is)
          ∙ ap (λ first. before done (with_op first rest)) read ∙ before-op done op rest;
    }

refused_first : (first : Result HeaderOp HeaderRefusal) (rest : Result (List HeaderOp) HeaderRefusal) (done : List HeaderOp) (refusal : RuleRefusal) → IsRefused (or_bad_change first) refusal → IsRefused (or_bad_op (before done (with_op first rest))) refusal
refused_first (Err cause) rest done HostFault h = h
refused_first (Err cause) rest done NoMemory h = h
refused_first (Err cause) rest done refusal h = cc
refused_first (Ok op) rest done HostFault h = h
refused_first (Ok op) rest done NoMemory h = h
refused_first (Ok op) rest done refusal h = absurd (cc)

pub ops_stop : (direction : Direction) (changes : List Change) (next : ℕ) (change : Change) (done : List HeaderOp) (refusal : RuleRefusal)
    → next < length changes → change ≡ get_or changes next change → AreReadSoFar direction changes done next → IsRefused (or_bad_change (read_change direction (change_seen change))) refusal → IsRefused (ops_in direction (changes_seen changes)) refusal
unfolding ops_in
ops_stop direction changes next change done refusal inside is so_far refused =
    let same = so_far.same ∙ ap (before done) (next_op direction changes next change inside is) in
    subst (λ (ops : Result (List HeaderOp) HeaderRefusal). IsRefused (or_bad_op ops) refusal) (sym same)
    (refused_first (read_change direction (change_seen change)) (ops_of direction (changes_seen (drop (next + 1) changes))) done refusal refused)

pub ops_end : (direction : Direction) (changes : List Change) (next : ℕ) (done : List HeaderOp) → length changes ≤ next → AreReadSoFar direction changes done next → ops_in direction (changes_seen changes) ≡ Ok done
unfolding ops_in
ops_end direction changes next done end so_far =
    ap or_bad_op (so_far.same ∙ ap (λ rest. before done (ops_of direction (changes_seen rest))) (drop_all next changes end) ∙ ap Ok (append-nil done))
