use Rattle.std.proofs.Common.{◌≡◌, ◌-◌, [], ◌∷◌, length, None, refl, ap, ap₂, ◌∙◌, arith}
use Rattle.json.specs.Token.{Token}
use Rattle.json.specs.Json.{parse_map, items, members, value}
use Rattle.json.specs.Reads.{token_of}
use Rattle.json.proofs.Grammar.{left_none, left_some, value_is, value-begin_array, value-begin_object}
use Rattle.serde_json.specs.Data.{null, boolean, number, string, array}
use Rattle.serde_json.specs.Read.{of_json, of_items, converted}
use Rattle.serde_json.specs.View.{number_view}
use Rattle.json_fields.proofs.Turns.{converted-array, converted-object}
use Rattle.json_fields.proofs.object.open_object.Goals as goal

pub returns-in_err-token-clause-bad : goal.returns-in_err-token-clause-bad
returns-in_err-token-clause-bad c = λ _.
    let empty : c.args.reader.now ≡ [] = grind arith in
    ap (converted of_json) (ap (value c.args.depth) empty ∙ value_is c.args.depth [])

pub returns-then-depth-eq0-clause-bad : goal.returns-then-depth-eq0-clause-bad
unfolding value
returns-then-depth-eq0-clause-bad c = λ _.
    let first : c.args.reader.now ≡ token_of c.in_ok-token.token ∷ c.next.new.self = grind arith in
    let none : c.args.depth ≡ 0 = omega arith in
    ap (converted of_json) (ap₂ value none (first ∙ ap (λ k. token_of k ∷ c.next.new.self) c.in-BeginObject.is))

pub returns-then-depth-eq0-2-clause-bad : goal.returns-then-depth-eq0-2-clause-bad
unfolding value
returns-then-depth-eq0-2-clause-bad c = λ _.
    let first : c.args.reader.now ≡ token_of c.in_ok-token.token ∷ c.next.new.self = grind arith in
    let none : c.args.depth ≡ 0 = omega arith in
    ap (converted of_json) (ap₂ value none (first ∙ ap (λ k. token_of k ∷ c.next.new.self) c.in-BeginArray.is))

pub returns-in-String-clause-ok : goal.returns-in-String-clause-ok
returns-in-String-clause-ok c =
    let first : c.args.reader.now ≡ token_of c.in_ok-token.token ∷ c.next.new.self = grind arith in
    let is : c.args.reader.now ≡ Token.string c.in-String._text.now ∷ c.next.new.self = grind (arith, first) in
    (string c.in-String._text.now, ap (converted of_json) (ap (value c.args.depth) is ∙ value_is c.args.depth (Token.string c.in-String._text.now ∷ c.next.new.self)), refl)

pub returns-in-Bool-clause-ok : goal.returns-in-Bool-clause-ok
returns-in-Bool-clause-ok c =
    let first : c.args.reader.now ≡ token_of c.in_ok-token.token ∷ c.next.new.self = grind arith in
    let is : c.args.reader.now ≡ Token.boolean c.in-Bool._truth ∷ c.next.new.self = grind (arith, first) in
    (boolean c.in-Bool._truth, ap (converted of_json) (ap (value c.args.depth) is ∙ value_is c.args.depth (Token.boolean c.in-Bool._truth ∷ c.next.new.self)), refl)

pub returns-in-Null-clause-ok : goal.returns-in-Null-clause-ok
returns-in-Null-clause-ok c =
    let first : c.args.reader.now ≡ token_of c.in_ok-token.token ∷ c.next.new.self = grind arith in
    let is : c.args.reader.now ≡ Token.null ∷ c.next.new.self = grind (arith, first) in
    (null, ap (converted of_json) (ap (value c.args.depth) is ∙ value_is c.args.depth (Token.null ∷ c.next.new.self)), refl)

pub returns-in-Some-clause-ok : goal.returns-in-Some-clause-ok
returns-in-Some-clause-ok c =
    let first : c.args.reader.now ≡ token_of c.in_ok-token.token ∷ c.next.new.self = grind arith in
    let is : c.args.reader.now ≡ Token.number c.in-Number.text.now ∷ c.next.new.self = grind (arith, first) in
    (number (number_view c.in-Some._number), ap (converted of_json) (ap (value c.args.depth) is ∙ value_is c.args.depth (Token.number c.in-Number.text.now ∷ c.next.new.self)) ∙ rw (← c.in-Some.ensures), refl)

pub returns-in-None-clause-bad : goal.returns-in-None-clause-bad
returns-in-None-clause-bad c = λ _.
    let first : c.args.reader.now ≡ token_of c.in_ok-token.token ∷ c.next.new.self = grind arith in
    let is : c.args.reader.now ≡ Token.number c.in-Number.text.now ∷ c.next.new.self = grind (arith, first) in
    ap (converted of_json) (ap (value c.args.depth) is ∙ value_is c.args.depth (Token.number c.in-Number.text.now ∷ c.next.new.self)) ∙ rw (← c.in-None.ensures)

pub returns-in-EndObject-clause-bad : goal.returns-in-EndObject-clause-bad
returns-in-EndObject-clause-bad c = λ _.
    let first : c.args.reader.now ≡ token_of c.in_ok-token.token ∷ c.next.new.self = grind arith in
    let none : value c.args.depth c.args.reader.now ≡ None = rw (value_is c.args.depth c.args.reader.now, first) (grind arith) in
    ap (converted of_json) none

pub returns-else-depth-eq0-clause-ok : goal.returns-else-depth-eq0-clause-ok
returns-else-depth-eq0-clause-ok c =
    let first : c.args.reader.now ≡ token_of c.in_ok-token.token ∷ c.next.new.self = grind arith in
    let inner = members (value (c.args.depth - 1)) (length c.next.new.self) c.next.new.self in
    (omega arith, ap (converted of_json) (ap (value c.args.depth) (first ∙ ap (λ k. token_of k ∷ c.next.new.self) c.in-BeginObject.is) ∙ value-begin_object c.args.depth c.next.new.self (omega arith)) ∙ converted-object inner)

pub returns-in_err-pass_items-in-BeginArray-clause-bad : goal.returns-in_err-pass_items-in-BeginArray-clause-bad
returns-in_err-pass_items-in-BeginArray-clause-bad c = λ _.
    let first : c.args.reader.now ≡ token_of c.in_ok-token.token ∷ c.next.new.self = grind arith in
    let inner = items (value (c.args.depth - 1)) (length c.next.new.self) c.next.new.self in
    let opened = ap (converted of_json) (ap (value c.args.depth) (first ∙ ap (λ k. token_of k ∷ c.next.new.self) c.in-BeginArray.is) ∙ value-begin_array c.args.depth c.next.new.self (omega arith)) ∙ converted-array inner in
    opened ∙ ap (parse_map array) (left_none (converted of_items inner) c.in_err-pass_items-in-BeginArray.ensures.value)

pub returns-in_ok-pass_items-in-BeginArray-clause-ok : goal.returns-in_ok-pass_items-in-BeginArray-clause-ok
returns-in_ok-pass_items-in-BeginArray-clause-ok c =
    let first : c.args.reader.now ≡ token_of c.in_ok-token.token ∷ c.next.new.self = grind arith in
    let inner = items (value (c.args.depth - 1)) (length c.next.new.self) c.next.new.self in
    let opened = ap (converted of_json) (ap (value c.args.depth) (first ∙ ap (λ k. token_of k ∷ c.next.new.self) c.in-BeginArray.is) ∙ value-begin_array c.args.depth c.next.new.self (omega arith)) ∙ converted-array inner in
    let ds = left_some (converted of_items inner) c.pass_items.new.reader c.in_ok-pass_items-in-BeginArray.ensures.value in
    (array ds.0, opened ∙ ap (parse_map array) ds.1, refl)
