-- What a name is not, which is none of those listed.
use Rattle.std.proofs.Common.{◌≡◌, ◌≢◌, ℕ, Bool, true, false, cond, List, Option, Some, None, refl, ⊎_elim, sym}
use Rattle.std.specs.Prelude.{codes, option_and_then}
use Rattle.std.specs.Str.{bytes_eq}
use Rattle.std.proofs.lemmas.Bool.{cases_Bool}
use Rattle.std.proofs.lemmas.Slice.Eq.{bytes_eq-Decides}
use Rattle.dnr_base.specs.declared.scheme.Scheme.{Scheme}
use Rattle.dnr_base.specs.declared.scheme.Scheme.TheVariants.{Http, Https, Ws, Wss, Ftp, ChromeExtension}
use Rattle.rule_spec.specs.Redirects.{is_new_scheme}
use Rattle.json_spec.specs.RuleAction.{new_scheme}

pub differs : (name text : List ℕ) → name ≢ text → bytes_eq name text ≡ false
differs name text other = ⊎_elim (λ same. absurd (other ((bytes_eq-Decides name text).0 same))) (λ e. e) (cases_Bool (bytes_eq name text))

is_other : (text name : List ℕ) → name ≢ text → bytes_eq text name ≡ false
is_other text name other = differs text name (λ same. other (sym same))

-- the scheme that a transform may give, by what the name is
abbrev given : Bool → Bool → Bool → Bool → Bool → Bool → Option Scheme
given http https ws wss ftp extension =
    option_and_then (λ scheme. cond (is_new_scheme scheme) (Some scheme) None)
    (cond http (Some Http) (cond https (Some Https) (cond ws (Some Ws) (cond wss (Some Wss) (cond ftp (Some Ftp) (cond extension (Some ChromeExtension) None))))))

-- a transform may give no scheme of a socket
none_given : (ws wss : Bool) → given false false ws wss false false ≡ None
none_given true wss = refl
none_given false true = refl
none_given false false = refl

pub no_new_scheme : (name : List ℕ) → name ≢ codes "http" → name ≢ codes "https" → name ≢ codes "ftp" → name ≢ codes "chrome-extension" → None ≡ new_scheme name
no_new_scheme name http https ftp extension =
    rw (is_other _ name http, is_other _ name https, is_other _ name ftp, is_other _ name extension)
    (sym (none_given (bytes_eq (codes "ws") name) (bytes_eq (codes "wss") name)))
