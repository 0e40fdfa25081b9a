-- The image of the smallest program, and bytes that are none.
use Rattle.std.proofs.Common.{codes, ◌≡◌, ℕ, List, [], ◌∷◌, ◌++◌, refl, inl, inr, subst, length, take, lit<}
use Rattle.wy_text.specs.Members.{In}
use Rattle.wy_spelling.specs.Plain.{IsTextSpelled}
use Rattle.wy_spelling.specs.Spelling.{AreSpelled, IsBadAt, IsStuck}
use Rattle.wy_spelling.proofs.Wholes.{bad_where_more, bad_where_stuck}
use Rattle.wy_image.specs.Files.{IsFileSpelled, file_bytes}
use Rattle.wy_image.specs.Spelled.{IsBodySpelled, IsBoundsSpelled, IsMainSpelled, IsRowSpelled, IsScopeSpelled}
use Rattle.wy_image.specs.declared.file.Body.{Body}
use Rattle.wy_image.specs.declared.file.Constant.TheVariants as constant
use Rattle.wy_image.specs.declared.file.ImageFile.{ImageFile}
use Rattle.wy_image.specs.declared.file.Instruction.TheVariants as instruction
use Rattle.wy_image.specs.declared.file.Row.{Row}
use Rattle.wy_image.specs.declared.file.Scope.{Scope}
use Rattle.wy_image.specs.declared.typing.Bounds.{Bounds}
use Rattle.wy_image.specs.declared.typing.Reference.TheVariants as reference
use Rattle.wy_image.proofs.FileFronts.{image_files_apart}

abbrev unit_row : Row
unit_row = record { instruction = instruction.Push constant.Unit; file = 1; line = 3; column = 5 }

abbrev finish_row : Row
finish_row = record { instruction = instruction.Finish; file = 1; line = 2; column = 3 }

abbrev run : Body
run = record { parameters = 0; slots = 2; rows = unit_row ∷ finish_row ∷ [] }

abbrev program : Scope
program = record { arguments = 0; first = 0; fields = 0; entries = []; literals = [] }

abbrev run_bounds : Bounds
run_bounds = record {
  body = 0;
  name = codes "run";
  effect = [];
  parameters = [];
  result = reference.Unit;
  vals = [];
  targets = [];
}

abbrev pub smallest : ImageFile
smallest = record {
  files = codes "a.wy" ∷ [];
  grants = [];
  methods = [];
  types = [];
  bodies = run ∷ [];
  scopes = program ∷ [];
  instances = [];
  main = record { scope = 0; typing = record { values = []; literals = []; bodies = run_bounds ∷ [] } };
}

abbrev bytes : List ℕ
bytes =
    87 ∷ 89 ∷ 73 ∷ 77 ∷ 65 ∷ 71 ∷ 69 ∷ 49 ∷ 1 ∷ 0 ∷ 0 ∷ 0 ∷ 4 ∷ 0 ∷ 0 ∷ 0 ∷ 97 ∷ 46 ∷ 119 ∷ 121 ∷ 0 ∷ 0 ∷ 0 ∷ 0 ∷
    0 ∷ 0 ∷ 0 ∷ 0 ∷ 0 ∷ 0 ∷ 0 ∷ 0 ∷ 1 ∷ 0 ∷ 0 ∷ 0 ∷ 0 ∷ 0 ∷ 0 ∷ 0 ∷ 2 ∷ 0 ∷ 0 ∷ 0 ∷ 2 ∷ 0 ∷ 0 ∷ 0 ∷
    1 ∷ 2 ∷ 1 ∷ 0 ∷ 0 ∷ 0 ∷ 3 ∷ 0 ∷ 0 ∷ 0 ∷ 5 ∷ 0 ∷ 0 ∷ 0 ∷ 13 ∷ 1 ∷ 0 ∷ 0 ∷ 0 ∷ 2 ∷ 0 ∷ 0 ∷ 0 ∷ 3 ∷
    0 ∷ 0 ∷ 0 ∷ 1 ∷ 0 ∷ 0 ∷ 0 ∷ 0 ∷ 0 ∷ 0 ∷ 0 ∷ 0 ∷ 0 ∷ 0 ∷ 0 ∷ 0 ∷ 0 ∷ 0 ∷ 0 ∷ 0 ∷ 0 ∷ 0 ∷ 0 ∷ 0 ∷
    0 ∷ 0 ∷ 0 ∷ 0 ∷ 0 ∷ 0 ∷ 0 ∷ 0 ∷ 0 ∷ 0 ∷ 0 ∷ 0 ∷ 0 ∷ 0 ∷ 0 ∷ 0 ∷ 0 ∷ 0 ∷ 0 ∷ 1 ∷ 0 ∷ 0 ∷ 0 ∷ 0 ∷
    0 ∷ 0 ∷ 0 ∷ 3 ∷ 0 ∷ 0 ∷ 0 ∷ 114 ∷ 117 ∷ 110 ∷ 0 ∷ 0 ∷ 0 ∷ 0 ∷ 0 ∷ 0 ∷ 0 ∷ 0 ∷ 3 ∷ 0 ∷ 0 ∷ 0 ∷ 0 ∷ 0 ∷
    0 ∷ 0 ∷ 0 ∷ []

-- all 147 of them
smallest_bytes : file_bytes smallest ≡ bytes
smallest_bytes = refl

as_many : length bytes ≡ 147
as_many = refl

none : {X : Type 0} (IsSpelled : X → Type 0) → AreSpelled IsSpelled []
none IsSpelled = (lit< tt, λ x h. absurd h)

one : {X : Type 0} (IsSpelled : X → Type 0) (x : X) → IsSpelled x → AreSpelled IsSpelled (x ∷ [])
one IsSpelled x is = (lit< tt, λ y h. elim h [ inl e ↦ subst IsSpelled e is | inr g ↦ absurd g ])

two : {X : Type 0} (IsSpelled : X → Type 0) (x z : X) → IsSpelled x → IsSpelled z → AreSpelled IsSpelled (x ∷ z ∷ [])
two {X} IsSpelled x z is also =
    let each : (y : X) → In y (x ∷ z ∷ []) → IsSpelled y = λ y h.
    elim h [ inl e ↦ subst IsSpelled e is | inr g ↦ elim g [ inl e ↦ subst IsSpelled e also | inr f ↦ absurd f ] ] in
    (lit< tt, each)

unit_spelled : IsRowSpelled unit_row
unit_spelled = (tt, (lit< tt, (lit< tt, lit< tt)))

finish_spelled : IsRowSpelled finish_row
finish_spelled = (tt, (lit< tt, (lit< tt, lit< tt)))

run_spelled : IsBodySpelled run
run_spelled = (lit< tt, (lit< tt, two IsRowSpelled unit_row finish_row unit_spelled finish_spelled))

program_spelled : IsScopeSpelled program
program_spelled = (lit< tt, (lit< tt, (lit< tt, (none _, none _))))

bounds_spelled : IsBoundsSpelled run_bounds
bounds_spelled = (lit< tt, (lit< tt, (none _, (none _, (tt, (none _, none _))))))

main_spelled : IsMainSpelled smallest.main
main_spelled = (lit< tt, (none _, (none _, one IsBoundsSpelled run_bounds bounds_spelled)))

smallest_spelled : IsFileSpelled smallest
smallest_spelled =
    let files = one IsTextSpelled (codes "a.wy") (lit< tt) in
    let bodies = one IsBodySpelled run run_spelled in
    let scopes = one IsScopeSpelled program program_spelled in
    (files, (none _, (none _, (none _, (bodies, (scopes, (none _, main_spelled)))))))

-- without its last byte: all that there is can stand
cut_off : IsBadAt IsFileSpelled file_bytes (take 146 bytes) 146
cut_off =
    let stuck : IsStuck IsFileSpelled file_bytes (take 146 bytes) 0 = record {
      front = take 146 bytes;
      rest = [];
      split = refl;
      rest_is = refl;
      begins = (smallest, 0, [], smallest_spelled, refl);
      ends = λ next behind at x others is e. absurd cc;
    } in
    bad_where_stuck IsFileSpelled file_bytes image_files_apart (take 146 bytes) 0 stuck

-- with one byte more
one_more : IsBadAt IsFileSpelled file_bytes (bytes ++ 0 ∷ []) 147
one_more =
    bad_where_more IsFileSpelled file_bytes image_files_apart (bytes ++ 0 ∷ []) smallest (0 ∷ []) (lit< tt)
    (smallest_spelled, refl)
