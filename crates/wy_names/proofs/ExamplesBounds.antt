-- The upper bounds of atoms: those of a bare parameter, of an instance and of a used module are bounded as the members of their type are, and
-- no other atom is:
--
--    1  type Log
--    2    effect Put
--    3    effect Any = {Put}
--    4    effect All <= {Any}
--    5  module quiet: Log
--    6    effect Put = {}
--    7    effect All = {}
--    8  resource module tee(disk: Folder, to: Log, low: Log at {to.All}): Log
--    9    use quiet
--   10    effect Put = {to.Put}
--   11    effect All = {to.All, disk.Append}
--   12  program
--   13    grant disk: Folder
--   14    use quiet
--   15    instance one = tee(disk, quiet, quiet)
--   16    import pl = plug(one) at {one.All}
--   17    run: {}
--   18      ()
--   19  plain module plug(l: Log): Log
use Rattle.std.specs.Prelude.{codes, ◌≡◌, List, [], ◌∷◌, ◌++◌, map, replicate, Some, None, refl}
use Rattle.wy_syntax.specs.declared.types.TypeUse.TheVariants as use_of
use Rattle.wy_syntax.specs.declared.items.Member.TheVariants as member
use Rattle.wy_syntax.specs.declared.items.Line.TheVariants as line
use Rattle.wy_syntax.specs.Trees as t
use Rattle.wy_effects.specs.Bounds.{Bounds}
use Rattle.wy_types.specs.Program.{Scope}
use Rattle.wy_symbols.specs.Declarations.{ProgramTree, programs_of}
use Rattle.wy_names.specs.Scopes.{resolved, refusals_of}
use Rattle.wy_symbols.proofs.Sources.{at, word, member_atom, owner_atom, param, define, grant, type_decl, resource_of, nothing_at}

main : ProgramTree
main = record {
  place = at 12 1;
  grants = grant (word (codes "disk") 13 9) (word (codes "Folder") 13 15) ∷ [];
  uses = word (codes "quiet") 14 7 ∷ [];
  lines =
      line.Instance (word (codes "one") 15 12) (word (codes "tee") 15 18) (word (codes "disk") 15 22 ∷ word (codes "quiet") 15 28 ∷ word (codes "quiet") 15 35 ∷ [])
      ∷ line.Import (word (codes "pl") 16 10) (word (codes "plug") 16 15) (word (codes "one") 16 20 ∷ []) (owner_atom (word (codes "one") 16 29) (word (codes "All") 16 33) ∷ [])
      ∷ [];
  run = at 17 3;
  effect = [];
  body = t.long (nothing_at 18 5);
}

items : List t.ItemTree
items =
    type_decl 1 (word (codes "Log") 1 6) (
    member.Abstract (word (codes "Put") 2 10)
    ∷ member.Defined (word (codes "Any") 3 10) (member_atom (word (codes "Put") 3 17) ∷ [])
    ∷ member.Bounded (word (codes "All") 4 10) (member_atom (word (codes "Any") 4 18) ∷ [])
    ∷ [])
    ∷ t.pure_item (at 5 1) (word (codes "quiet") 5 8) (word (codes "Log") 5 15)
    (record { uses = []; lines = []; defines = define (word (codes "Put") 6 10) [] ∷ define (word (codes "All") 7 10) [] ∷ []; init = None; parts = t.no_parts })
    ∷ resource_of 8 (word (codes "tee") 8 17) (
    param (word (codes "disk") 8 21) (use_of.Bare (word (codes "Folder") 8 27))
    ∷ param (word (codes "to") 8 35) (use_of.Bare (word (codes "Log") 8 39))
    ∷ param (word (codes "low") 8 44) (use_of.At (word (codes "Log") 8 49) (owner_atom (word (codes "to") 8 57) (word (codes "All") 8 60) ∷ []))
    ∷ []) (word (codes "Log") 8 67) (word (codes "quiet") 9 7 ∷ []) [] (
    define (word (codes "Put") 10 10) (owner_atom (word (codes "to") 10 17) (word (codes "Put") 10 20) ∷ [])
    ∷ define (word (codes "All") 11 10) (owner_atom (word (codes "to") 11 17) (word (codes "All") 11 20) ∷ owner_atom (word (codes "disk") 11 25) (word (codes "Append") 11 30) ∷ [])
    ∷ []) t.no_parts
    ∷ t.program_item main.place main.grants main.uses main.lines main.run main.effect main.body
    ∷ t.plain_item (at 19 1) (word (codes "plug") 19 14) (param (word (codes "l") 19 19) (use_of.Bare (word (codes "Log") 19 22)) ∷ []) (word (codes "Log") 19 28) t.no_parts
    ∷ []

-- the four atoms of a folder have none
folder_bounds : Bounds
folder_bounds = replicate 4 None

-- in `tee`: `disk`, then `to` with the atoms 4 and 5, then `quiet` with 6 and 7; in the program: `disk`, `quiet` with 4 and 5, `one` with 6 and 7
bounds_are : map (λ (s : Scope). s.bounds) (resolved items main).scopes ≡
    [] ∷ (folder_bounds ++ None ∷ Some (4 ∷ []) ∷ None ∷ Some (6 ∷ []) ∷ []) ∷ [] ∷ (folder_bounds ++ None ∷ Some (4 ∷ []) ∷ None ∷ Some (6 ∷ []) ∷ []) ∷ []
unfolding items main folder_bounds
bounds_are = refl

one_program : programs_of items ≡ main ∷ []
unfolding items main
one_program = refl

no_refusals : refusals_of items ≡ []
unfolding items main
no_refusals = refl
