-- The methods of a request: Chrome's reference of declarativeNetRequest, `RequestMethod`, and `other`.
use Rattle.std.specs.Prelude.{ℕ, List, [], ◌∷◌, Bool, ◌==◌, codes, Option}
use Rattle.std.specs.List.{find, list_any}
use Rattle.std.specs.Str.{bytes_eq}
use Rattle.dnr_base.specs.declared.method.Method.{Method}
use Rattle.dnr_base.specs.declared.method.Method.TheVariants.{Connect, Delete, Get, Head, Options, Patch, Post, Put, Other}

-- all of them, in the order of the reference
abbrev pub all_methods : List Method
all_methods = Connect ∷ Delete ∷ Get ∷ Head ∷ Options ∷ Patch ∷ Post ∷ Put ∷ Other ∷ []

-- how the reference writes it
abbrev pub name_of : Method → List ℕ
name_of Connect = codes "connect"
name_of Delete = codes "delete"
name_of Get = codes "get"
name_of Head = codes "head"
name_of Options = codes "options"
name_of Patch = codes "patch"
name_of Post = codes "post"
name_of Put = codes "put"
name_of Other = codes "other"

-- the method of a name
abbrev pub method_named : List ℕ → Option Method
method_named name = find (λ method. bytes_eq (name_of method) name) all_methods

-- its place in the reference
abbrev pub place_of : Method → ℕ
place_of Connect = 0
place_of Delete = 1
place_of Get = 2
place_of Head = 3
place_of Options = 4
place_of Patch = 5
place_of Post = 6
place_of Put = 7
place_of Other = 8

abbrev pub same_method : Method → Method → Bool
same_method a b = place_of a == place_of b

-- a list of methods is taken as a set: this one is in it
abbrev pub has_method : List Method → Method → Bool
has_method methods method = list_any (λ other. same_method method other) methods
