-- The refusals of names, each on a small program of its own, with the place where it stands.
use Rattle.std.proofs.Common.{◌≡◌, [], ◌∷◌, refl, Some, None}
use Rattle.std.specs.Prelude.{codes, replicate}
use Rattle.wy_text.specs.declared.limit.LimitName.TheVariants as limit
use Rattle.wy_syntax.specs.declared.types.TypeUse.TheVariants as use_of
use Rattle.wy_syntax.specs.declared.items.Member.TheVariants as member
use Rattle.wy_syntax.specs.declared.items.Line.TheVariants as line
use Rattle.wy_syntax.specs.declared.statements.FieldKind.TheVariants.{Val, Var}
use Rattle.wy_syntax.specs.Trees as t
use Rattle.wy_symbols.specs.declared.refusal.Cause.TheVariants.{Unknown, Twice, TwoPrograms, MemberUndefined, MemberUnknown}
use Rattle.wy_symbols.specs.Least.{refusal_at, noted}
use Rattle.wy_heads.specs.Counts.{limit_of}
use Rattle.wy_names.specs.Scopes.{refusals_of}
use Rattle.wy_symbols.proofs.Sources.{at, word, member_atom, owner_atom, member_set, param, def, define, grant, type_decl, resource, resource_of, program, only, nothing_at, named}

-- types that the examples use: `type E` on line 1 with the abstract member `A`, and `type N` on line 3 without members
type_e : t.ItemTree
type_e = type_decl 1 (word (codes "E") 1 6) (member.Abstract (word (codes "A") 2 10) ∷ [])

type_n : t.ItemTree
type_n = type_decl 3 (word (codes "N") 3 6) []

------------------------------------------------------------
-- Unknown

-- the type of a module, of a parameter, and a module in a use and in a line
no_type : refusals_of (resource 1 (word (codes "m") 1 17) (param (word (codes "p") 1 19) (use_of.Bare (word (codes "T") 1 22)) ∷ []) (word (codes "S") 1 26) t.no_parts ∷ []) ≡
    refusal_at (at 1 26) Unknown ∷ refusal_at (at 1 22) Unknown ∷ []
no_type = refl

no_module : refusals_of (type_n ∷ resource_of 4 (word (codes "m") 4 17) [] (word (codes "N") 4 22) (word (codes "u") 5 7 ∷ []) (line.Instance (word (codes "x") 6 12) (word (codes "k") 6 16) [] ∷ []) [] t.no_parts ∷ []) ≡
    refusal_at (at 5 7) Unknown ∷ refusal_at (at 6 16) Unknown ∷ []
unfolding type_n
no_module = refl

-- an argument that stands after its line, and a grant whose type is declared but not primitive
no_argument : refusals_of (type_n ∷ resource 4 (word (codes "m") 4 17) [] (word (codes "N") 4 22) t.no_parts
    ∷ program 5 9 (grant (word (codes "g") 6 9) (word (codes "N") 6 12) ∷ [])
    (line.Instance (word (codes "x") 7 12) (word (codes "m") 7 16) (word (codes "y") 7 18 ∷ []) ∷ line.Instance (word (codes "y") 8 12) (word (codes "m") 8 16) (word (codes "x") 8 18 ∷ []) ∷ [])
    [] (nothing_at 10 5) ∷ []) ≡
    refusal_at (at 6 12) Unknown ∷ refusal_at (at 7 18) Unknown ∷ []
unfolding type_n
no_argument = refl

-- owners: a word that is none, an import, a parameter that is not bare; and a name of one word
no_owner : refusals_of (type_e
    ∷ t.plain_item (at 3 1) (word (codes "q") 3 14) [] (word (codes "E") 3 19) t.no_parts
    ∷ resource_of 4 (word (codes "m") 4 17) (param (word (codes "p") 4 19) (use_of.At (word (codes "E") 4 22) []) ∷ []) (word (codes "E") 4 32) []
    (line.Import (word (codes "i") 5 10) (word (codes "q") 5 14) [] [] ∷ [])
    (define (word (codes "A") 6 10) (owner_atom (word (codes "z") 6 15) (word (codes "A") 6 17) ∷ owner_atom (word (codes "i") 6 20) (word (codes "A") 6 22)
    ∷ owner_atom (word (codes "p") 6 25) (word (codes "A") 6 27) ∷ member_atom (word (codes "A") 6 30) ∷ []) ∷ [])
    t.no_parts ∷ []) ≡
    refusal_at (at 6 15) Unknown ∷ refusal_at (at 6 20) Unknown ∷ refusal_at (at 6 25) Unknown ∷ refusal_at (at 6 30) Unknown ∷ []
unfolding type_e
no_owner = refl

-- an effect definition in a line's set, an owner whose own type is unknown (which adds nothing), and the program's `this`
in_lines : refusals_of (type_e
    ∷ t.plain_item (at 3 1) (word (codes "q") 3 14) [] (word (codes "E") 3 19) t.no_parts
    ∷ resource_of 4 (word (codes "m") 4 17) (param (word (codes "p") 4 19) (use_of.Bare (word (codes "T") 4 22)) ∷ []) (word (codes "E") 4 32) []
    (line.Import (word (codes "i") 5 10) (word (codes "q") 5 14) [] (member_atom (word (codes "A") 5 22) ∷ owner_atom (word (codes "p") 5 25) (word (codes "A") 5 27) ∷ []) ∷ [])
    (define (word (codes "A") 6 10) [] ∷ []) t.no_parts
    ∷ program 7 8 [] [] [] (only (t.value (t.this (at 9 5)))) ∷ []) ≡
    refusal_at (at 4 22) Unknown ∷ refusal_at (at 5 22) Unknown ∷ refusal_at (at 9 5) Unknown ∷ []
unfolding type_e
in_lines = refl

-- a member's set sees earlier members alone
later_member : refusals_of (type_decl 1 (word (codes "D") 1 6) (member.Defined (word (codes "B") 2 10) (member_atom (word (codes "A") 2 15) ∷ []) ∷ member.Abstract (word (codes "A") 3 10) ∷ []) ∷ []) ≡
    refusal_at (at 2 15) Unknown ∷ []
later_member = refl

-- and so does a member's upper bound, which does not see itself
bound_members : refusals_of (type_decl 1 (word (codes "D") 1 6) (
    member.Bounded (word (codes "B") 2 10) (member_atom (word (codes "A") 2 16) ∷ []) ∷ member.Abstract (word (codes "A") 3 10)
    ∷ member.Bounded (word (codes "C") 4 10) (member_atom (word (codes "A") 4 16) ∷ member_atom (word (codes "C") 4 19) ∷ []) ∷ []) ∷ []) ≡
    refusal_at (at 2 16) Unknown ∷ refusal_at (at 4 19) Unknown ∷ []
bound_members = refl

------------------------------------------------------------
-- Twice

-- a type with the name of a primitive one, and a type and a module that repeat others
names_twice : refusals_of (type_decl 1 (word (codes "Clock") 1 6) [] ∷ type_decl 2 (word (codes "N") 2 6) [] ∷ type_decl 3 (word (codes "N") 3 6) []
    ∷ t.pure_item (at 4 1) (word (codes "m") 4 8) (word (codes "N") 4 11) (record { uses = []; lines = []; defines = []; init = None; parts = t.no_parts })
    ∷ t.plain_item (at 5 1) (word (codes "m") 5 14) [] (word (codes "N") 5 19) t.no_parts ∷ []) ≡
    refusal_at (at 1 6) Twice ∷ refusal_at (at 3 6) Twice ∷ refusal_at (at 5 14) Twice ∷ []
names_twice = refl

-- members, abstract, bounded or defined, methods, and parameters of a method
members_twice : refusals_of (type_decl 1 (word (codes "T") 1 6) (
    member.Abstract (word (codes "A") 2 10) ∷ member.Defined (word (codes "A") 3 10) []
    ∷ member.Method (def 4 (word (codes "f") 4 7) (param (word (codes "a") 4 9) (use_of.Int (at 4 12)) ∷ param (word (codes "a") 4 17) (use_of.Int (at 4 20)) ∷ []) [] (use_of.Int (at 4 29)))
    ∷ member.Method (def 5 (word (codes "f") 5 7) [] [] (use_of.Int (at 5 15))) ∷ []) ∷ []) ≡
    refusal_at (at 3 10) Twice ∷ refusal_at (at 5 7) Twice ∷ refusal_at (at 4 17) Twice ∷ []
members_twice = refl

-- a line with the name of a parameter, a definition, a field, a method of a literal, and a member of a type
scopes_twice : refusals_of (type_e ∷ resource_of 4 (word (codes "m") 4 17) (param (word (codes "p") 4 19) (use_of.Bare (word (codes "E") 4 22)) ∷ []) (word (codes "E") 4 26) []
    (line.Instance (word (codes "p") 5 12) (word (codes "k") 5 16) [] ∷ [])
    (define (word (codes "A") 6 10) [] ∷ define (word (codes "A") 7 10) [] ∷ [])
    (t.more_parts (t.field Val (word (codes "f") 8 7) (use_of.Int (at 8 10)) (named (word (codes "p") 8 16)))
    (t.more_parts (t.field Var (word (codes "f") 9 7) (use_of.With (word (codes "E") 9 10) (member_set (word (codes "A") 9 12) [] ∷ member_set (word (codes "A") 9 20) [] ∷ []))
    (t.literal (at 9 30) (t.more_parts (t.method (def 10 (word (codes "g") 10 9) [] [] (use_of.Unit (at 10 17))) (t.long (nothing_at 10 24)))
    (t.more_parts (t.method (def 11 (word (codes "g") 11 9) [] [] (use_of.Unit (at 11 17))) (t.long (nothing_at 11 24))) t.no_parts))))
    t.no_parts)) ∷ t.pure_item (at 12 1) (word (codes "k") 12 8) (word (codes "Unknown") 12 11) (record { uses = []; lines = []; defines = []; init = None; parts = t.no_parts }) ∷ []) ≡
    refusal_at (at 5 12) Twice ∷ refusal_at (at 7 10) Twice ∷ refusal_at (at 9 7) Twice ∷ refusal_at (at 9 20) Twice ∷ refusal_at (at 11 9) Twice ∷ refusal_at (at 12 11) Unknown ∷ []
unfolding type_e
scopes_twice = refl

------------------------------------------------------------
-- TwoPrograms, MemberUndefined and MemberUnknown

-- each block after the first
two_programs : refusals_of (program 1 2 [] [] [] (nothing_at 3 5) ∷ program 4 5 [] [] [] (nothing_at 6 5) ∷ program 7 8 [] [] [] (nothing_at 9 5) ∷ []) ≡
    refusal_at (at 4 1) TwoPrograms ∷ refusal_at (at 7 1) TwoPrograms ∷ []
two_programs = refl

-- a module that defines nothing; a type in a signature that has no set for a member
undefined : refusals_of (type_e ∷ resource 4 (word (codes "m") 4 17) [] (word (codes "E") 4 22)
    (t.more_parts (t.method (def 5 (word (codes "f") 5 7) (param (word (codes "e") 5 9) (use_of.Bare (word (codes "E") 5 12)) ∷ []) [] (use_of.Unit (at 5 19))) (t.long (nothing_at 5 26))) t.no_parts) ∷ []) ≡
    refusal_at (at 4 17) MemberUndefined ∷ refusal_at (at 5 12) MemberUndefined ∷ []
unfolding type_e
undefined = refl

-- bare types may stand as a parameter's type, and in plain modules
may_be_bare : refusals_of (type_e ∷ t.plain_item (at 4 1) (word (codes "q") 4 14) (param (word (codes "p") 4 16) (use_of.Bare (word (codes "E") 4 19)) ∷ []) (word (codes "E") 4 23)
    (t.more_parts (t.field Var (word (codes "f") 5 7) (use_of.Bare (word (codes "E") 5 10)) (named (word (codes "p") 5 14))) t.no_parts) ∷ []) ≡ []
unfolding type_e
may_be_bare = refl

-- a definition, a set in a type and an atom of a member that is not there, and a set for a defined member
unknown_members : refusals_of (type_decl 1 (word (codes "D") 1 6) (member.Abstract (word (codes "A") 2 10) ∷ member.Defined (word (codes "B") 3 10) [] ∷ [])
    ∷ resource_of 4 (word (codes "m") 4 17) (param (word (codes "p") 4 19) (use_of.Bare (word (codes "D") 4 22)) ∷ []) (word (codes "D") 4 26) [] []
    (define (word (codes "A") 5 10) (owner_atom (word (codes "p") 5 15) (word (codes "C") 5 17) ∷ owner_atom (word (codes "p") 5 20) (word (codes "B") 5 22) ∷ []) ∷ define (word (codes "B") 6 10) [] ∷ [])
    (t.more_parts (t.field Var (word (codes "f") 7 7) (use_of.With (word (codes "D") 7 10) (member_set (word (codes "A") 7 12) [] ∷ member_set (word (codes "B") 7 20) [] ∷ [])) (named (word (codes "p") 7 30))) t.no_parts) ∷ []) ≡
    refusal_at (at 6 10) MemberUnknown ∷ refusal_at (at 5 17) MemberUnknown ∷ refusal_at (at 7 20) MemberUnknown ∷ []
unknown_members = refl

------------------------------------------------------------
-- Which comes first

-- the lesser place, whatever stands first in the list; at one place the lesser number
first_of_two : noted None (refusal_at (at 6 10) MemberUnknown ∷ refusal_at (at 5 17) MemberUnknown ∷ refusal_at (at 5 17) Twice ∷ refusal_at (at 7 1) Unknown ∷ []) ≡ Some (refusal_at (at 5 17) Twice)
first_of_two = refl

------------------------------------------------------------
-- Limits

-- 64 grants are within their limit and 65 are not, in any one block; a limit comes before what is refused
few_grants : limit_of (program 1 70 (replicate 64 (grant (word (codes "g") 2 9) (word (codes "Clock") 2 12))) [] [] (nothing_at 71 5) ∷ []) ≡ None
few_grants = refl

many_grants : limit_of (program 1 70 [] [] [] (nothing_at 71 5) ∷ program 1 70 (replicate 65 (grant (word (codes "g") 2 9) (word (codes "Clock") 2 12))) [] [] (nothing_at 71 5) ∷ []) ≡ Some limit.Grants
many_grants = refl

-- of two limits the earlier in the table; the parameters of a method of a literal count
many_parameters : limit_of (program 1 2 [] [] [] (only (t.literal (at 3 5) (t.more_parts
    (t.method (def 4 (word (codes "f") 4 9) (replicate 17 (param (word (codes "a") 4 11) (use_of.Int (at 4 14)))) [] (use_of.Unit (at 4 90))) (t.long (nothing_at 4 97))) t.no_parts))) ∷ []) ≡ Some limit.Parameters
many_parameters = refl

-- each abstract member counts as often as it is written
many_atoms : limit_of (type_decl 1 (word (codes "T") 1 6) (replicate 513 (member.Abstract (word (codes "A") 2 10))) ∷ []) ≡ Some limit.Atoms
many_atoms = refl

few_atoms : limit_of (type_decl 1 (word (codes "T") 1 6) (replicate 512 (member.Abstract (word (codes "A") 2 10))) ∷ []) ≡ None
few_atoms = refl
