-- Records of V-Range, made of their parts.
use Rattle.std.proofs.Common.{◌≡◌, ◌↔◌, IsTrue, ℕ, ◌+◌, ◌<◌, ◌≤◌, Bool, List, length, drop, sym, subst}
use Rattle.std.specs.Prelude.{Result, Ok, Err, IfOk}
use Rattle.wy_text.specs.Members.{In}
use Rattle.wy_text.specs.declared.text.Memory.{Memory}
use Rattle.wy_image.specs.declared.file.Body.{Body}
use Rattle.wy_image.specs.declared.file.ImageFile.{ImageFile}
use Rattle.wy_image.specs.declared.file.Row.{Row}
use Rattle.wy_image.specs.declared.file.Scope.{Scope}
use Rattle.wy_image.specs.declared.typing.Atom.{Atom}
use Rattle.wy_image.specs.declared.typing.Bounds.{Bounds}
use Rattle.wy_image.specs.declared.typing.Reference.{Reference}
use Rattle.wy_image.specs.declared.typing.Target.{Target}
use Rattle.wy_verified.specs.CodeOf.{name_by, typings_of, texts_of}
use Rattle.wy_verified.specs.Ranges.{AtomInRange, AreInRange, ArePlain, ValuesInRange, InstructionInRange, RowInRange, TargetInRange, BoundsInRange, IsPrinted, LimitsKept}
use Rattle.wy_verified.specs.Rules.{Owner}
use Rattle.wy_verify.specs.RangeParts.{HasFewParts, HasItsTypes, IsFileNumber, IsValSlot, vals_in}
use Rattle.wy_verify.proofs.RangeNeeds.{vals_same}
use Rattle.wy_verify.proofs.RangeTests.{reworded}

-- the same by other words, where the answer may be an error
pub ok_reworded : {P Q : Type 0} (r : Result Bool Memory) → IfOk r (λ b. IsTrue b ↔ P) → (P → Q) → (Q → P) → IfOk r (λ b. IsTrue b ↔ Q)
ok_reworded (Ok b) h f g = reworded b h f g
ok_reworded (Err e) h f g = h

module _ (file : ImageFile) (x : ℕ) (s : Scope) where
  pub values_of : (before fields : ℕ) (rs : List Reference) → length rs ≡ before + fields → AreInRange file x s rs →
      ArePlain file (drop before rs) → ValuesInRange file x s before fields rs
  values_of before fields rs c a p = record { count = c; all = a; plain = p }

  pub target_of : (b : Body) (vals : ℕ) (t : Target) → t.address < length b.rows → AreInRange file x s t.operands →
      ((i : ℕ) → In i t.stored → IsValSlot b vals i) → TargetInRange file x s b vals t
  target_of b vals t a o h = record { address = a; operands = o; stored = h }

  pub bounds_of : (b : Body) (n : Bounds) → IsPrinted n.name × (n.name ≡ name_by (typings_of file) n.body) →
      ((a : Atom) → In a n.effect → AtomInRange file a) → HasItsTypes file b n → vals_in b ≤ length n.vals → AreInRange file x s n.vals →
      ((t : Target) → In t n.targets → TargetInRange file x s b (length n.vals) t) → BoundsInRange file x s b n
  bounds_of b n p a h v r t = record {
    printed = p.0;
    name = p.1;
    atoms = a;
    count = h.count;
    parameters = h.parameters;
    result = h.result;
    stored = subst (λ k. k ≤ length n.vals) (sym (vals_same (texts_of file) b)) v;
    vals = r;
    targets = t;
  }

  pub bounds_name : (b : Body) (n : Bounds) → BoundsInRange file x s b n → IsPrinted n.name × (n.name ≡ name_by (typings_of file) n.body)
  bounds_name b n h = (h.printed, h.name)

  pub bounds_types : (b : Body) (n : Bounds) → BoundsInRange file x s b n → HasItsTypes file b n
  bounds_types b n h = record { count = h.count; parameters = h.parameters; result = h.result }

  pub bounds_stored : (b : Body) (n : Bounds) → BoundsInRange file x s b n → vals_in b ≤ length n.vals
  bounds_stored b n h = subst (λ k. k ≤ length n.vals) (vals_same (texts_of file) b) h.stored

pub row_of : (file : ImageFile) (s : Scope) (o : Owner) (b : Body) (r : Row) → IsFileNumber file r.file →
    InstructionInRange file s o b r.instruction → RowInRange file s o b r
row_of file s o b r n i = record { some = n.0; most = n.1; instruction = i }

pub limits_of : (file : ImageFile) → HasFewParts file → ((b : Body) → In b file.bodies → b.slots ≤ 256) → LimitsKept file
limits_of file h s = record { files = h.files; grants = h.grants; instances = h.instances; bodies = h.bodies; slots = s }

pub limits_parts : (file : ImageFile) → LimitsKept file → HasFewParts file
limits_parts file h = record { files = h.files; grants = h.grants; instances = h.instances; bodies = h.bodies }
