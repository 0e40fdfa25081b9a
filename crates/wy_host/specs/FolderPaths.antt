-- Where the folders of grants are.
use Rattle.std.specs.Prelude.{◌≡◌, ℕ, Bool, List, ◌∷◌, ◌++◌, Option, bytes_eq, find, string_bytes, unwrap_or}
use Rattle.std.specs.Option.{option_map}
use Rattle.std.specs.declared.string.String.{String}
use Rattle.wy_host.specs.declared.grant_folder.GrantFolder.{GrantFolder}

-- the pair has the name of this grant
abbrev pub is_for : List ℕ → GrantFolder → Bool
is_for grant folder = bytes_eq (string_bytes folder.grant) grant

-- the path that is given for a grant's folder: that of the first pair with the grant's name
abbrev pub given_path : List GrantFolder → List ℕ → Option (List ℕ)
given_path folders grant = option_map (λ f. string_bytes f.path) (find (is_for grant) folders)

-- the path of a grant's folder: the one that is given, or else that of its name in the base
abbrev pub folder_of : List GrantFolder → List ℕ → List ℕ → List ℕ
folder_of folders base grant = unwrap_or (given_path folders grant) (base ++ 47 ∷ grant)

-- a text is the path of a grant's folder
abbrev pub IsFolderOf : {A : Type 0} → List GrantFolder → String A → List ℕ → String A → Type 0
IsFolderOf folders base grant path = string_bytes path ≡ folder_of folders (string_bytes base) grant

-- a text is the path of what has a name in a grant's folder
abbrev pub IsFileOf : {A : Type 0} → List GrantFolder → String A → List ℕ → List ℕ → String A → Type 0
IsFileOf folders base grant name path = string_bytes path ≡ folder_of folders (string_bytes base) grant ++ 47 ∷ name
