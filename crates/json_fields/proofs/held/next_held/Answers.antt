use Rattle.std.proofs.Common.{◌≡◌, ◌-◌, [], ◌∷◌, length, None, refl, ap, ap₂, ◌∙◌, arith}
use Rattle.json.specs.Token.{Token}
use Rattle.json.specs.Json.{parse_map, items, members, value}
use Rattle.json.specs.Reads.{token_of}
use Rattle.json.proofs.Grammar.{value_is, value-begin_array, value-begin_object}
use Rattle.serde_json.specs.Data.{no_members, null, boolean, number, string, array, object}
use Rattle.serde_json.specs.Read.{of_json, of_items, of_members, converted}
use Rattle.serde_json.specs.View.{number_view}
use Rattle.json_fields.proofs.Turns.{converted-array, converted-object}
use Rattle.json_fields.proofs.Nested.{held_of}
use Rattle.json_fields.proofs.held.next_held.Goals as goal

pub returns-in_err-token-clause-bad : goal.returns-in_err-token-clause-bad
returns-in_err-token-clause-bad c = λ _.
    let empty : c.args.reader.now ≡ [] = grind arith in
    ap (converted of_json) (ap (value c.args.depth) empty ∙ value_is c.args.depth [])

pub returns-then-depth-eq0-clause-bad : goal.returns-then-depth-eq0-clause-bad
unfolding value
returns-then-depth-eq0-clause-bad c = λ _.
    let first : c.args.reader.now ≡ token_of c.in_ok-token.token ∷ c.next.new.self = grind arith in
    let none : c.args.depth ≡ 0 = omega arith in
    ap (converted of_json) (ap₂ value none (first ∙ ap (λ k. token_of k ∷ c.next.new.self) c.in-BeginArray.is))

pub returns-then-depth-eq0-2-clause-bad : goal.returns-then-depth-eq0-2-clause-bad
unfolding value
returns-then-depth-eq0-2-clause-bad c = λ _.
    let first : c.args.reader.now ≡ token_of c.in_ok-token.token ∷ c.next.new.self = grind arith in
    let none : c.args.depth ≡ 0 = omega arith in
    ap (converted of_json) (ap₂ value none (first ∙ ap (λ k. token_of k ∷ c.next.new.self) c.in-BeginObject.is))

pub returns-in-String-clause-ok : goal.returns-in-String-clause-ok
returns-in-String-clause-ok c =
    let first : c.args.reader.now ≡ token_of c.in_ok-token.token ∷ c.next.new.self = grind arith in
    let is : c.args.reader.now ≡ Token.string c.in-String.text.now ∷ c.next.new.self = grind (arith, first) in
    (string c.in-String.text.now, ap (converted of_json) (ap (value c.args.depth) is ∙ value_is c.args.depth (Token.string c.in-String.text.now ∷ c.next.new.self)), refl)

pub returns-in-Bool-clause-ok : goal.returns-in-Bool-clause-ok
returns-in-Bool-clause-ok c =
    let first : c.args.reader.now ≡ token_of c.in_ok-token.token ∷ c.next.new.self = grind arith in
    let is : c.args.reader.now ≡ Token.boolean c.in-Bool.b ∷ c.next.new.self = grind (arith, first) in
    (boolean c.in-Bool.b, ap (converted of_json) (ap (value c.args.depth) is ∙ value_is c.args.depth (Token.boolean c.in-Bool.b ∷ c.next.new.self)), refl)

pub returns-in-Null-clause-ok : goal.returns-in-Null-clause-ok
returns-in-Null-clause-ok c =
    let first : c.args.reader.now ≡ token_of c.in_ok-token.token ∷ c.next.new.self = grind arith in
    let is : c.args.reader.now ≡ Token.null ∷ c.next.new.self = grind (arith, first) in
    (null, ap (converted of_json) (ap (value c.args.depth) is ∙ value_is c.args.depth (Token.null ∷ c.next.new.self)), refl)

pub returns-in-Some-clause-ok : goal.returns-in-Some-clause-ok
returns-in-Some-clause-ok c =
    let first : c.args.reader.now ≡ token_of c.in_ok-token.token ∷ c.next.new.self = grind arith in
    let is : c.args.reader.now ≡ Token.number c.in-Number.text.now ∷ c.next.new.self = grind (arith, first) in
    (number (number_view c.in-Some.number), ap (converted of_json) (ap (value c.args.depth) is ∙ value_is c.args.depth (Token.number c.in-Number.text.now ∷ c.next.new.self)) ∙ rw (← c.in-Some.ensures), refl)

pub returns-in-None-clause-bad : goal.returns-in-None-clause-bad
returns-in-None-clause-bad c = λ _.
    let first : c.args.reader.now ≡ token_of c.in_ok-token.token ∷ c.next.new.self = grind arith in
    let is : c.args.reader.now ≡ Token.number c.in-Number.text.now ∷ c.next.new.self = grind (arith, first) in
    ap (converted of_json) (ap (value c.args.depth) is ∙ value_is c.args.depth (Token.number c.in-Number.text.now ∷ c.next.new.self)) ∙ rw (← c.in-None.ensures)

pub returns-in-EndObject-clause-bad : goal.returns-in-EndObject-clause-bad
returns-in-EndObject-clause-bad c = λ _.
    let first : c.args.reader.now ≡ token_of c.in_ok-token.token ∷ c.next.new.self = grind arith in
    let none : value c.args.depth c.args.reader.now ≡ None = rw (value_is c.args.depth c.args.reader.now, first) (grind arith) in
    ap (converted of_json) none

pub returns-else-depth-eq0-clause-ok : goal.returns-else-depth-eq0-clause-ok
returns-else-depth-eq0-clause-ok c =
    let first : c.args.reader.now ≡ token_of c.in_ok-token.token ∷ c.next.new.self = grind arith in
    let inner = items (value (c.args.depth - 1)) (length c.next.new.self) c.next.new.self in
    let opened = ap (converted of_json) (ap (value c.args.depth) (first ∙ ap (λ k. token_of k ∷ c.next.new.self) c.in-BeginArray.is) ∙ value-begin_array c.args.depth c.next.new.self (omega arith)) ∙ converted-array inner in
    held_of array (converted of_json (value c.args.depth c.args.reader.now)) (converted of_items inner) c.list_held.new.reader c.args.keeps c.list_held.result opened c.list_held.ensures.ok

pub returns-else-depth-eq0-clause-bad : goal.returns-else-depth-eq0-clause-bad
returns-else-depth-eq0-clause-bad c = λ e.
    let first : c.args.reader.now ≡ token_of c.in_ok-token.token ∷ c.next.new.self = grind arith in
    let inner = items (value (c.args.depth - 1)) (length c.next.new.self) c.next.new.self in
    let opened = ap (converted of_json) (ap (value c.args.depth) (first ∙ ap (λ k. token_of k ∷ c.next.new.self) c.in-BeginArray.is) ∙ value-begin_array c.args.depth c.next.new.self (omega arith)) ∙ converted-array inner in
    opened ∙ ap (parse_map array) (c.list_held.ensures.bad e)

pub returns-else-depth-eq0-2-clause-ok : goal.returns-else-depth-eq0-2-clause-ok
returns-else-depth-eq0-2-clause-ok c =
    let first : c.args.reader.now ≡ token_of c.in_ok-token.token ∷ c.next.new.self = grind arith in
    let inner = members (value (c.args.depth - 1)) (length c.next.new.self) c.next.new.self in
    let opened = ap (converted of_json) (ap (value c.args.depth) (first ∙ ap (λ k. token_of k ∷ c.next.new.self) c.in-BeginObject.is) ∙ value-begin_object c.args.depth c.next.new.self (omega arith)) ∙ converted-object inner in
    held_of object (converted of_json (value c.args.depth c.args.reader.now)) (converted (λ ms. of_members ms no_members) inner) c.object_held.new.reader c.args.keeps c.object_held.result opened c.object_held.ensures.ok

pub returns-else-depth-eq0-2-clause-bad : goal.returns-else-depth-eq0-2-clause-bad
returns-else-depth-eq0-2-clause-bad c = λ e.
    let first : c.args.reader.now ≡ token_of c.in_ok-token.token ∷ c.next.new.self = grind arith in
    let inner = members (value (c.args.depth - 1)) (length c.next.new.self) c.next.new.self in
    let opened = ap (converted of_json) (ap (value c.args.depth) (first ∙ ap (λ k. token_of k ∷ c.next.new.self) c.in-BeginObject.is) ∙ value-begin_object c.args.depth c.next.new.self (omega arith)) ∙ converted-object inner in
    opened ∙ ap (parse_map object) (c.object_held.ensures.bad e)
