-- A change that was read is what its own words read as.
use Rattle.std.proofs.Common.{◌≡◌, ℕ, List, [], ◌∷◌, map, length, Bool, true, false, cond, not, ◌&&◌, nat_lt, nat_le, is_some, is_none, Result, Ok, Err, refl, sym, ap, ◌∙◌, subst}
use Rattle.std.specs.List.{list_all, list_any}
use Rattle.std.specs.Char.{to_ascii_lowercase}
use Rattle.std.specs.Str.{bytes_eq, str_to_ascii_lowercase}
use Rattle.std.proofs.lemmas.List.{length-map}
use Rattle.http_header.specs.Token.{is_token_byte}
use Rattle.http_header.proofs.TokenLemmas.{is_token_byte-to_ascii_lowercase, lowercase-lowercase_lem}
use Rattle.dnr_base.specs.declared.direction.Direction.{Direction}
use Rattle.dnr_base.specs.declared.direction.Direction.TheVariants.{Request, Response}
use Rattle.dnr_spec.specs.declared.header_refusal.HeaderRefusal.{HeaderRefusal}
use Rattle.dnr_spec.specs.declared.header_refusal.HeaderRefusal.TheVariants.{BadName, BadValue, ValueMissing, ValueGiven, AppendNotAllowed}
use Rattle.dnr_spec.specs.Headers.{HeaderOp, is_name, is_appendable, appendable, may_append, is_append, needs_value, has_bad_value, header_op_of}
use Rattle.header_actions.specs.Again.{ReadsAgain}
use Rattle.header_actions.proofs.Names.{is_name_by_bytes}
use Rattle.header_actions.proofs.Settled.{both_true, not_not}

-- ---- the tests in their order

abbrev tested : Bool → Bool → Bool → Bool → Bool → HeaderOp → Result HeaderOp HeaderRefusal
tested a b c d e op = cond a (Err BadName) (cond b (Err BadValue) (cond c (Err ValueMissing) (cond d (Err ValueGiven) (cond e (Err AppendNotAllowed) (Ok op)))))

record Passes (a b c d e : Bool) (x op : HeaderOp) : Type 0 where
  name : a ≡ false
  append : e ≡ false
  same : x ≡ op
  again : (y : HeaderOp) → tested a b c d e y ≡ Ok y

passes : (a b c d e : Bool) (x op : HeaderOp) → tested a b c d e x ≡ Ok op → Passes a b c d e x op
passes true b c d e x op h = cc
passes false true c d e x op h = cc
passes false false true d e x op h = cc
passes false false false true e x op h = cc
passes false false false false true x op h = cc
passes false false false false false x op h = let same : x ≡ op = cc in record { name = refl; append = refl; same = same; again = λ y. refl }

-- ---- lower case

tokens_lowered : (name : List ℕ) → list_all is_token_byte name ≡ true → list_all is_token_byte (map to_ascii_lowercase name) ≡ true
tokens_lowered [] h = refl
tokens_lowered (b ∷ name) h =
    let both = both_true (is_token_byte b) (list_all is_token_byte name) h in
    ap (λ t. t && list_all is_token_byte (map to_ascii_lowercase name)) (is_token_byte-to_ascii_lowercase b both.0) ∙ tokens_lowered name both.1

name_lowered : (name : List ℕ) → is_name name ≡ true → is_name (str_to_ascii_lowercase name) ≡ true
name_lowered name h =
    let both = both_true (nat_lt 0 (length name) && nat_le (length name) 256) (list_all is_token_byte name) (sym (is_name_by_bytes name) ∙ h) in
    is_name_by_bytes (str_to_ascii_lowercase name)
    ∙ ap (λ n. (nat_lt 0 n && nat_le n 256) && list_all is_token_byte (str_to_ascii_lowercase name)) (length-map name to_ascii_lowercase)
    ∙ ap (λ t. t && list_all is_token_byte (str_to_ascii_lowercase name)) both.0
    ∙ tokens_lowered name both.1

appendable_lowered : (name : List ℕ) → is_appendable (str_to_ascii_lowercase name) ≡ is_appendable name
unfolding is_appendable
appendable_lowered name = ap (λ lower. list_any (λ listed. bytes_eq lower (str_to_ascii_lowercase listed)) appendable) (lowercase-lowercase_lem name)

may_append_lowered : (direction : Direction) (name : List ℕ) → may_append direction (str_to_ascii_lowercase name) ≡ may_append direction name
may_append_lowered Request name = appendable_lowered name
may_append_lowered Response name = refl

pub reads_again : ReadsAgain
reads_again direction name operation value op h =
    let lower = str_to_ascii_lowercase name in
    let x : HeaderOp = record { name = lower; operation = operation; value = value } in
    let y : HeaderOp = record { name = str_to_ascii_lowercase lower; operation = operation; value = value } in
    let bad = has_bad_value value in
    let missing = needs_value operation && is_none value in
    let given = not (needs_value operation) && is_some value in
    let may = λ (n : List ℕ). is_append operation && not (may_append direction n) in
    let p = passes (not (is_name name)) bad missing given (may name) x op h in
    let named : not (is_name lower) ≡ not (is_name name) =
    ap not (name_lowered name (sym (not_not (is_name name)) ∙ ap not p.name)) ∙ sym p.name in
    let back : header_op_of direction lower operation value ≡ Ok x =
    ap (λ a. tested a bad missing given (may lower) y) named
    ∙ ap (λ m. tested (not (is_name name)) bad missing given (is_append operation && not m) y) (may_append_lowered direction name)
    ∙ ap (λ n. tested (not (is_name name)) bad missing given (may name) (record { name = n; operation = operation; value = value })) (lowercase-lowercase_lem name)
    ∙ p.again x in
    subst (λ (o : HeaderOp). header_op_of direction o.name o.operation o.value ≡ Ok o) p.same back
