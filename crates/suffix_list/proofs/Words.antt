-- The labels of a rule, read one by one.
use Rattle.std.proofs.Common.{◌≡◌, ℕ, ◌<◌, List, [], ◌∷◌, ◌++◌, length, get_or, Bool, true, false, ◌&&◌, cond, Option, Some, None, Bor, suc, zero, refl, sym, ap, subst, ◌∙◌, arith, codes}
use Rattle.std.specs.List.{list_all}
use Rattle.std.specs.Option.{option_map, option_and_then}
use Rattle.std.specs.Char.{is_ascii}
use Rattle.std.specs.Str.{bytes_eq, str_to_ascii_lowercase}
use Rattle.std.proofs.lemmas.List.{append_assoc}
use Rattle.std.proofs.lemmas.Slice.Eq.{bytes_eq-Decides}
use Rattle.idna.specs.declared.deny_list.TheConstants.AsciiDenyList.{EMPTY}
use Rattle.idna.specs.Uts46.{domain_to_ascii}
use Rattle.dnr_spec.specs.Hosts.{labels_of}
use Rattle.dnr_spec.specs.Suffixes.{is_label_byte, is_plain_label, if_plain, read_label, read_labels}
use Rattle.dnr_spec.proofs.Labels.{HasNoDot, labels_of-plain, labels_of-last}
use Rattle.suffix_list.proofs.Cuts.{IsCut, labels_behind, first_cut}

and_left : (a b : Bool) → (a && b) ≡ true → a ≡ true
and_left true b h = refl
and_left false b h = h

and_right : (a b : Bool) → (a && b) ≡ true → b ≡ true
and_right true b h = h
and_right false b h = absurd (let e : false ≡ true = h in cc)

no_dot_bytes : (label : List ℕ) → list_all is_label_byte label ≡ true → (i : ℕ) → i < length label → get_or label i 0 ≡ 46 → ⊥
no_dot_bytes [] h i l e = absurd (omega arith)
no_dot_bytes (b ∷ label) h zero l e =
    let dot : is_label_byte 46 ≡ true = sym (ap is_label_byte e) ∙ and_left (is_label_byte b) (list_all is_label_byte label) h in
    let none : false ≡ true = dot in cc
no_dot_bytes (b ∷ label) h (suc i) l e = no_dot_bytes label (and_right (is_label_byte b) (list_all is_label_byte label) h) i (omega arith) e

chosen_some : (b : Bool) (read label : List ℕ) → cond b (Some read) None ≡ Some label → (b ≡ true) × (read ≡ label)
chosen_some true read label h = (refl, cc)
chosen_some false read label h = absurd (cc)

if_plain-no_dot : (read label : List ℕ) → if_plain read ≡ Some label → HasNoDot label
if_plain-no_dot read label h =
    let chosen = chosen_some (is_plain_label read) read label h in
    let bytes : list_all is_label_byte read ≡ true = and_right _ (list_all is_label_byte read) chosen.0 in
    let P : List ℕ → Type 0 = HasNoDot in
    subst P chosen.1 (record { none = no_dot_bytes read bytes })

converted-no_dot : (read : Option (List ℕ)) (label : List ℕ) → option_and_then if_plain read ≡ Some label → HasNoDot label
converted-no_dot None label h = absurd (cc)
converted-no_dot (Some read) label h = if_plain-no_dot read label h

star_bytes : (i : ℕ) → i < 1 → get_or (codes "*") i 0 ≡ 46 → ⊥
star_bytes zero l e = omega arith
star_bytes (suc i) l e = omega arith

kept_star : (label read : List ℕ) → bytes_eq label (codes "*") ≡ true → Some label ≡ Some read → HasNoDot read
kept_star label read star h =
    let same : label ≡ codes "*" = (bytes_eq-Decides label (codes "*")).0 star in
    let P : List ℕ → Type 0 = HasNoDot in
    subst P (sym same ∙ cc) (record { none = star_bytes })

read_by : (star ascii : Bool) (label read : List ℕ) → bytes_eq label (codes "*") ≡ star → cond star (Some label) (cond ascii (if_plain (str_to_ascii_lowercase label)) (option_and_then if_plain (domain_to_ascii EMPTY label))) ≡ Some read → HasNoDot read
read_by true ascii label read e h = kept_star label read e h
read_by false true label read e h = if_plain-no_dot (str_to_ascii_lowercase label) read h
read_by false false label read e h = converted-no_dot (domain_to_ascii EMPTY label) read h

pub read_label-no_dot : (label read : List ℕ) → read_label label ≡ Some read → HasNoDot read
unfolding read_label
read_label-no_dot label read h = read_by (bytes_eq label (codes "*")) (list_all is_ascii label) label read refl h

read_some : (label read : List ℕ) (labels : List (List ℕ)) → read_label label ≡ Some read → read_labels (label ∷ labels) ≡ option_map (λ rest. read ∷ rest) (read_labels labels)
read_some label read labels h = ap (λ o. option_and_then (λ first. option_map (λ rest. first ∷ rest) (read_labels labels)) o) h

-- the first label stands alone in the text
pub read_first : (word first read : List ℕ) (rest : Option (Bor (List ℕ))) → IsCut word first rest → read_label first ≡ Some read → read_labels (labels_of word) ≡ option_map (λ more. labels_of read ++ more) (read_labels (labels_behind rest))
read_first word first read rest cut h =
    ap read_labels (first_cut word first rest cut) ∙ read_some first read (labels_behind rest) h
    ∙ ap (λ ls. option_map (λ more. ls ++ more) (read_labels (labels_behind rest))) (sym (labels_of-plain read (read_label-no_dot first read h)))

onto : (before : List (List ℕ)) (read : List ℕ) (rest : Option (List (List ℕ))) → option_map (λ more. before ++ more) (option_map (λ more. read ∷ more) rest) ≡ option_map (λ more. (before ++ read ∷ []) ++ more) rest
onto before read None = refl
onto before read (Some rest) = ap (λ (ls : List (List ℕ)). Some ls) (sym (append_assoc before (read ∷ []) rest))

-- each further label comes behind a dot
pub read_more : (all : Option (List (List ℕ))) (text others label read : List ℕ) (rest : Option (Bor (List ℕ))) → all ≡ option_map (λ more. labels_of text ++ more) (read_labels (labels_of others)) → IsCut others label rest → read_label label ≡ Some read → all ≡ option_map (λ more. labels_of ((text ++ 46 ∷ []) ++ read) ++ more) (read_labels (labels_behind rest))
read_more all text others label read rest so_far cut h =
    let joined : labels_of ((text ++ 46 ∷ []) ++ read) ≡ labels_of text ++ read ∷ [] = ap labels_of (append_assoc text (46 ∷ []) read) ∙ labels_of-last text read (read_label-no_dot label read h) in
    so_far
    ∙ ap (λ ls. option_map (λ more. labels_of text ++ more) (read_labels ls)) (first_cut others label rest cut)
    ∙ ap (λ o. option_map (λ more. labels_of text ++ more) o) (read_some label read (labels_behind rest) h)
    ∙ onto (labels_of text) read (read_labels (labels_behind rest))
    ∙ ap (λ ls. option_map (λ more. ls ++ more) (read_labels (labels_behind rest))) (sym joined)
