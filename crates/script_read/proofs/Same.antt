-- The command by a line's fields is that of its tree.
use Rattle.std.proofs.Common.{◌≡◌, ℕ, ◌<◌, List, [], ◌∷◌, Bool, length, map, get_or, false, Option, Some, None, Result, Err, option_map, refl, sym, ap, ◌∙◌, arith}
use Rattle.serde_json.specs.Data.{Data, null, boolean, number, string, array, object}
use Rattle.serde_json.specs.Find.{get, as_object}
use Rattle.line_spec.specs.declared.command_path.CommandPath.{CommandPath}
use Rattle.line_spec.specs.declared.command_path.CommandPath.TheVariants as path
use Rattle.line_spec.specs.declared.line_fault.LineFault.{LineFault}
use Rattle.line_spec.specs.declared.line_fault.LineFault.TheVariants.{BadCommand}
use Rattle.std.proofs.lemmas.List.{length-map}
use Rattle.line_spec.specs.RequestLine as request
use Rattle.line_spec.specs.Line as line
use Rattle.line_spec.specs.Line.{Command, command_in}
use Rattle.line_spec.specs.declared.command_name.CommandName.{CommandName}
use Rattle.line_spec.specs.declared.command_name.CommandName.TheVariants as name
use Rattle.line_spec.specs.CommandName.{name_from, name_in}
use Rattle.line_spec.specs.CommandPath.{path_name}
use Rattle.line_spec.specs.RequestLine.{field_at, initiator_from, request_in}
use Rattle.json_fields.specs.declared.fields.Form.TheVariants.{Object}
use Rattle.json_fields.specs.declared.field.Field.{Field}
use Rattle.json_fields.specs.Held.{seen}
use Rattle.json_fields.specs.Fields.{key_of, Gives}
use Rattle.json_fields.proofs.Asked.{value_is}
use Rattle.script_read.specs.Fields.{line_keys, value_at, place_of, url_from, kind_from, method_from, tab_from, request_from, name_at, command_at, command_from}

-- ---- a value of which its brackets alone are seen

url_seen : (d : Data) (found : Option Data) → field_at path.Url d ≡ found → url_from (option_map (seen false) found) ≡ request.url_in d
unfolding url_from request.url_in
url_seen d None e = rw e
url_seen d (Some null) e = rw e
url_seen d (Some (boolean b)) e = rw e
url_seen d (Some (number n)) e = rw e
url_seen d (Some (string s)) e = rw e
url_seen d (Some (array ds)) e = rw e
url_seen d (Some (object ms)) e = rw e

kind_seen : (d : Data) (found : Option Data) → field_at path.Kind d ≡ found → kind_from (option_map (seen false) found) ≡ request.kind_in d
unfolding kind_from request.kind_in
kind_seen d None e = rw e
kind_seen d (Some null) e = rw e
kind_seen d (Some (boolean b)) e = rw e
kind_seen d (Some (number n)) e = rw e
kind_seen d (Some (string s)) e = rw e
kind_seen d (Some (array ds)) e = rw e
kind_seen d (Some (object ms)) e = rw e

initiator_seen : (d : Data) (found : Option Data) → field_at path.Initiator d ≡ found → initiator_from path.Initiator (option_map (seen false) found) ≡ request.initiator_in path.Initiator d
unfolding request.initiator_in
initiator_seen d None e = rw e
initiator_seen d (Some null) e = rw e
initiator_seen d (Some (boolean b)) e = rw e
initiator_seen d (Some (number n)) e = rw e
initiator_seen d (Some (string s)) e = rw e
initiator_seen d (Some (array ds)) e = rw e
initiator_seen d (Some (object ms)) e = rw e

method_seen : (d : Data) (found : Option Data) → field_at path.Method d ≡ found → method_from path.Method (option_map (seen false) found) ≡ request.method_in path.Method d
unfolding method_from request.method_in
method_seen d None e = rw e
method_seen d (Some null) e = rw e
method_seen d (Some (boolean b)) e = rw e
method_seen d (Some (number n)) e = rw e
method_seen d (Some (string s)) e = rw e
method_seen d (Some (array ds)) e = rw e
method_seen d (Some (object ms)) e = rw e

tab_seen : (d : Data) (found : Option Data) → field_at path.Tab d ≡ found → tab_from (option_map (seen false) found) ≡ request.tab_in d
unfolding tab_from request.tab_in
tab_seen d None e = rw e
tab_seen d (Some null) e = rw e
tab_seen d (Some (boolean b)) e = rw e
tab_seen d (Some (number n)) e = rw e
tab_seen d (Some (string s)) e = rw e
tab_seen d (Some (array ds)) e = rw e
tab_seen d (Some (object ms)) e = rw e

cmd_seen : (found : Option Data) → name_from (option_map (seen false) found) ≡ name_from found
cmd_seen None = refl
cmd_seen (Some null) = refl
cmd_seen (Some (boolean b)) = refl
cmd_seen (Some (number n)) = refl
cmd_seen (Some (string s)) = refl
cmd_seen (Some (array ds)) = refl
cmd_seen (Some (object ms)) = refl

-- ---- the whole line

module _ (n : ℕ) (fields : List Field) (e : Field) (d : Data) (gives : Gives Object fields d) (keys : map key_of fields ≡ line_keys) (all : length fields ≡ 9) where
  pub plain : (p : CommandPath) → place_of p < 9 → (get_or line_keys (place_of p) (key_of e)) ≡ (path_name p, false) → value_at fields p ≡ option_map (seen false) (field_at p d)
  plain p within key = value_is fields line_keys (place_of p) e d gives keys (omega (arith, all)) ∙ ap (λ k. option_map (seen k.1) (get k.0 d)) key

  request_same : request_from n fields (Some d) ≡ request_in n d
  unfolding request_from request_in request.frames_in request.headers_in
  request_same =
      let url = ap url_from (plain path.Url (omega arith) refl) ∙ url_seen d _ refl in
      let kind = ap kind_from (plain path.Kind (omega arith) refl) ∙ kind_seen d _ refl in
      let initiator = ap (initiator_from path.Initiator) (plain path.Initiator (omega arith) refl) ∙ initiator_seen d _ refl in
      let method = ap (method_from path.Method) (plain path.Method (omega arith) refl) ∙ method_seen d _ refl in
      let tab = ap tab_from (plain path.Tab (omega arith) refl) ∙ tab_seen d _ refl in
      rw (url, kind, initiator, method, tab)

  same_name : name_at fields ≡ name_in d
  same_name = ap name_from (plain path.Cmd (omega arith) refl) ∙ cmd_seen (field_at path.Cmd d)

  at_name : (found : Option CommandName) (c : Result Command LineFault) → command_at n fields (Some d) found ≡ Some c → line.command_named n d found ≡ c
  at_name None c h = cc
  at_name (Some name.Request) c h = let same = request_same in cc
  at_name (Some name.Explain) c h = let same = request_same in cc
  at_name (Some name.Sync) c h = cc
  at_name (Some (name.Update which)) c h = cc
  at_name (Some name.Batch) c h = cc

  pub command_same : (c : Result Command LineFault) → command_from n fields (Some d) ≡ Some c → command_in n d ≡ c
  unfolding command_in
  command_same c h =
      ap (line.command_of_members n d) (ap as_object gives.1) ∙ at_name (name_in d) c (ap (command_at n fields (Some d)) (sym same_name) ∙ h)

pub command_is : (n : ℕ) (fields : List Field) (d : Data) (c : Result Command LineFault) → Gives Object fields d → map key_of fields ≡ line_keys → command_from n fields (Some d) ≡ Some c → command_in n d ≡ c
command_is n [] d c gives keys h = absurd (cc)
command_is n (e ∷ rest) d c gives keys h =
    let all : length (e ∷ rest) ≡ 9 = sym (length-map (e ∷ rest) key_of) ∙ ap (length {A = List ℕ × Bool}) keys in
    command_same n (e ∷ rest) e d gives keys all c h

pub name_is : (fields : List Field) (d : Data) → Gives Object fields d → map key_of fields ≡ line_keys → name_at fields ≡ name_in d
name_is [] d gives keys = absurd (cc)
name_is (e ∷ rest) d gives keys =
    let all : length (e ∷ rest) ≡ 9 = sym (length-map (e ∷ rest) key_of) ∙ ap (length {A = List ℕ × Bool}) keys in
    same_name 0 (e ∷ rest) e d gives keys all

pub no_object : (n : ℕ) (d : Data) → as_object d ≡ None → command_in n d ≡ Err (BadCommand path.Cmd)
unfolding command_in
no_object n d none = ap (line.command_of_members n d) none
