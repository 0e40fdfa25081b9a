-- Members with upper bounds, and the atoms of two owners that open them:
--
--   type Log
--     effect Put
--     effect Any = {Put}
--     effect All <= {Any}
--     effect Low <= {}
--     def put(): {All} Unit
use Rattle.std.specs.Prelude.{codes, ◌≡◌, List, [], ◌∷◌, Some, None, refl}
use Rattle.wy_text.specs.declared.fault.AtomName.{AtomName}
use Rattle.wy_syntax.specs.declared.types.TypeUse.TheVariants as use_of
use Rattle.wy_syntax.specs.declared.items.Member.{Member}
use Rattle.wy_syntax.specs.declared.items.Member.TheVariants.{Abstract, Bounded, Defined, Method}
use Rattle.wy_types.specs.declared.types.TypeRef.TheVariants as ref
use Rattle.wy_symbols.specs.declared.scoping.Opening.TheVariants.{Members, Nothing}
use Rattle.wy_symbols.specs.declared.scoping.Owner.{Owner}
use Rattle.wy_symbols.specs.declared.refusal.Cause.TheVariants.{Unknown, Twice}
use Rattle.wy_symbols.specs.Least.{refusal_at}
use Rattle.wy_symbols.specs.Atoms.{atom_of, atoms_of, bounds_of_owners, head}
use Rattle.wy_symbols.specs.TypeUses.{declaration, declaration_refusals}
use Rattle.wy_syntax.specs.declared.items.TypeDecl.{TypeDecl}
use Rattle.wy_symbols.proofs.Sources.{at, word, member_atom, owner_atom, def}

log_of : List Member → TypeDecl
log_of members = record { place = at 1 1; name = word (codes "Log") 1 6; members = members }

log : TypeDecl
unfolding log_of
log =
    log_of (
    Abstract (word (codes "Put") 2 10)
    ∷ Defined (word (codes "Any") 3 10) (member_atom (word (codes "Put") 3 17) ∷ [])
    ∷ Bounded (word (codes "All") 4 10) (member_atom (word (codes "Any") 4 18) ∷ [])
    ∷ Bounded (word (codes "Low") 5 10) []
    ∷ Method (def 6 (word (codes "put") 6 7) [] (member_atom (word (codes "All") 6 15) ∷ []) (use_of.Unit (at 6 20)))
    ∷ [])

-- `Put`, `All` and `Low` are abstract; a bound stands for abstract members by their numbers
declared : declaration [] log ≡ record {
  name = codes "Log";
  members = codes "Put" ∷ codes "All" ∷ codes "Low" ∷ [];
  bounds = None ∷ Some (0 ∷ []) ∷ Some [] ∷ [];
  defined = record { name = codes "Any"; effects = 0 ∷ [] } ∷ [];
  methods = record { name = codes "put"; params = []; effect = 1 ∷ []; result = ref.Unit } ∷ [];
}
unfolding log_of log
declared = refl

no_refusals : declaration_refusals [] log ≡ []
unfolding log_of log
no_refusals = refl

-- two owners of the type, and between them one that opens nothing
owners : List Owner
owners =
    record { name = codes "a"; opening = Members 0 }
    ∷ record { name = codes "n"; opening = Nothing }
    ∷ record { name = codes "b"; opening = Members 0 }
    ∷ []

atoms : List AtomName
atoms =
    atom_of (codes "a") (codes "Put") ∷ atom_of (codes "a") (codes "All") ∷ atom_of (codes "a") (codes "Low")
    ∷ atom_of (codes "b") (codes "Put") ∷ atom_of (codes "b") (codes "All") ∷ atom_of (codes "b") (codes "Low") ∷ []

atoms_are : atoms_of (head log ∷ []) owners ≡ atoms
unfolding log_of log owners atoms
atoms_are = refl

-- `a.All` is bounded by `a.Put`, `b.All` by `b.Put`
bounds_are : bounds_of_owners (head log ∷ []) atoms owners ≡ None ∷ Some (0 ∷ []) ∷ Some [] ∷ None ∷ Some (3 ∷ []) ∷ Some [] ∷ []
unfolding log_of log owners atoms
bounds_are = refl

-- a bound sees the members before it, not itself, a later one or an owner's; no member may repeat a name
later_member : declaration_refusals [] (log_of (Bounded (word (codes "A") 2 10) (member_atom (word (codes "B") 2 16) ∷ []) ∷ Abstract (word (codes "B") 3 10) ∷ [])) ≡ refusal_at (at 2 16) Unknown ∷ []
unfolding log_of
later_member = refl

itself : declaration_refusals [] (log_of (Bounded (word (codes "A") 2 10) (member_atom (word (codes "A") 2 16) ∷ []) ∷ [])) ≡ refusal_at (at 2 16) Unknown ∷ []
unfolding log_of
itself = refl

foreign : declaration_refusals [] (log_of (Bounded (word (codes "A") 2 10) (owner_atom (word (codes "o") 2 16) (word (codes "B") 2 18) ∷ []) ∷ [])) ≡ refusal_at (at 2 16) Unknown ∷ []
unfolding log_of
foreign = refl

twice : declaration_refusals [] (log_of (Abstract (word (codes "A") 2 10) ∷ Bounded (word (codes "A") 3 10) (member_atom (word (codes "A") 3 16) ∷ []) ∷ [])) ≡ refusal_at (at 3 10) Twice ∷ []
unfolding log_of
twice = refl
