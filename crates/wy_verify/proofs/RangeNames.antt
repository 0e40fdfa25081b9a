-- Names that are stated of bodies, in a table that grows, and what stands at a number.
use Rattle.std.proofs.Common.{◌≡◌, ℕ, ◌+◌, ◌<◌, Bool, true, false, List, [], ◌∷◌, ◌++◌, length, map, get_or, take, refl, sym, ap, ◌∙◌, Option, Some, None, is_some, cond, nat_eq}
use Rattle.std.specs.Prelude.{if◌then◌else◌}
use Rattle.std.proofs.lemmas.Bool.{eqb-true}
use Rattle.std.proofs.lemmas.List.{take_more}
use Rattle.wy_image.specs.declared.file.ImageFile.{ImageFile}
use Rattle.wy_image.specs.declared.file.Instance.{Instance}
use Rattle.wy_image.specs.declared.typing.Bounds.{Bounds}
use Rattle.wy_image.specs.declared.typing.Typing.{Typing}
use Rattle.wy_verified.specs.CodeOf.{name_by, name_or, typings_of}
use Rattle.wy_verified.specs.Kinds.{stated_in}
use Rattle.wy_verify.specs.RangeParts.{or_empty, or_other, name_at, stated_name, first_name}

other_first : (a b c : Option (List ℕ)) → or_other (or_other a b) c ≡ or_other a (or_other b c)
other_first None b c = refl
other_first (Some t) b c = refl

other_none : (a : Option (List ℕ)) → or_other a None ≡ a
other_none None = refl
other_none (Some t) = refl

stated_end : (b : ℕ) (ns : List Bounds) (n : Bounds) →
    stated_name (stated_in b (ns ++ n ∷ [])) ≡ or_other (stated_name (stated_in b ns)) (name_at n b)
stated_end b [] n = of (nat_eq n.body b)
  where
    of : (t : Bool) → stated_name (if t then Some n else None) ≡ (if t then Some n.name else None)
    of true = refl
    of false = refl
stated_end b (m ∷ ns) n = of (stated_end b ns n) (nat_eq m.body b)
  where
    of : stated_name (stated_in b (ns ++ n ∷ [])) ≡ or_other (stated_name (stated_in b ns)) (name_at n b) → (t : Bool) → stated_name (if t then Some m else stated_in b (ns ++ n ∷ [])) ≡ or_other (stated_name (if t then Some m else stated_in b ns)) (name_at n b)
    of rest true = refl
    of rest false = rest

-- one more statement
pub stated_more : (b : ℕ) (ns : List Bounds) (i : ℕ) (n : Bounds) → i < length ns → n ≡ get_or ns i n → (old now new : Option (List ℕ)) →
    now ≡ or_other old (stated_name (stated_in b (take i ns))) → new ≡ or_other now (name_at n b) →
    new ≡ or_other old (stated_name (stated_in b (take (i + 1) ns)))
stated_more b ns i n lt at old now new h e =
    e ∙ ap (λ o. or_other o (name_at n b)) h ∙ other_first old (stated_name (stated_in b (take i ns))) (name_at n b) ∙
    ap (λ o. or_other old o) (sym (stated_end b (take i ns) n)) ∙
    ap (λ (l : List Bounds). or_other old (stated_name (stated_in b l))) (ap (λ (m : Bounds). take i ns ++ m ∷ []) at ∙ sym (take_more ns i n lt))

first_end : (b : ℕ) (ts us : List Typing) → first_name b (ts ++ us) ≡ or_other (first_name b ts) (first_name b us)
first_end b [] us = refl
first_end b (t ∷ ts) us =
    ap (λ o. or_other (stated_name (stated_in b t.bodies)) o) (first_end b ts us) ∙
    sym (other_first (stated_name (stated_in b t.bodies)) (first_name b ts) (first_name b us))

typing_end : (is : List Instance) (i : Instance) → map (λ (i : Instance). i.typing) (is ++ i ∷ []) ≡ map (λ (i : Instance). i.typing) is ++ i.typing ∷ []
typing_end [] i = refl
typing_end (j ∷ is) i = ap (λ (l : List Typing). j.typing ∷ l) (typing_end is i)

-- one more instance
pub first_more : (b : ℕ) (js : List Instance) (i : ℕ) (j : Instance) → i < length js → j ≡ get_or js i j → (old now new : Option (List ℕ)) →
    now ≡ or_other old (first_name b (map (λ (i : Instance). i.typing) (take i js))) →
    new ≡ or_other now (stated_name (stated_in b j.typing.bodies)) →
    new ≡ or_other old (first_name b (map (λ (i : Instance). i.typing) (take (i + 1) js)))
first_more b js i j lt at old now new h e =
    let front : List Typing = map (λ (i : Instance). i.typing) (take i js) in
    e ∙ ap (λ o. or_other o (stated_name (stated_in b j.typing.bodies))) h ∙
    other_first old (first_name b front) (stated_name (stated_in b j.typing.bodies)) ∙
    ap (λ o. or_other old (or_other (first_name b front) o)) (sym (other_none (stated_name (stated_in b j.typing.bodies)))) ∙
    ap (λ o. or_other old o) (sym (first_end b front (j.typing ∷ []))) ∙
    ap (λ (l : List Typing). or_other old (first_name b l)) (sym (typing_end (take i js) j)) ∙
    ap (λ (l : List Instance). or_other old (first_name b (map (λ (i : Instance). i.typing) l))) (ap (λ (m : Instance). take i js ++ m ∷ []) at ∙ sym (take_more js i j lt))

name_same : (ts : List Typing) (b : ℕ) → or_empty (first_name b ts) ≡ name_by ts b
name_same [] b = refl
name_same (t ∷ ts) b = of (name_same ts b) (stated_in b t.bodies)
  where
    of : or_empty (first_name b ts) ≡ name_by ts b → (o : Option Bounds) → or_empty (or_other (stated_name o) (first_name b ts)) ≡ name_or o (name_by ts b)
    of rest None = rest
    of rest (Some n) = refl

-- the names of all instances, and then those of the program
pub names_whole : (file : ImageFile) (b : ℕ) (start now new : Option (List ℕ)) → start ≡ None →
    now ≡ or_other start (first_name b (map (λ (i : Instance). i.typing) file.instances)) →
    new ≡ or_other now (stated_name (stated_in b file.main.typing.bodies)) → or_empty new ≡ name_by (typings_of file) b
names_whole file b start now new s h e =
    let front : List Typing = map (λ (i : Instance). i.typing) file.instances in
    ap or_empty
    (e ∙ ap (λ o. or_other o (stated_name (stated_in b file.main.typing.bodies))) (h ∙ ap (λ o. or_other o (first_name b front)) s) ∙
    ap (λ o. or_other (first_name b front) o) (sym (other_none (stated_name (stated_in b file.main.typing.bodies)))) ∙
    sym (first_end b front (file.main.typing ∷ []))) ∙
    name_same (typings_of file) b

-- a name that was put in, or one that was there
pub name_put : (n : Bounds) (b : ℕ) (old : ℕ → Option (List ℕ)) → is_some (old n.body) ≡ false →
    cond (nat_eq n.body b) (Some n.name) (old b) ≡ or_other (old b) (name_at n b)
name_put n b old none = of (nat_eq n.body b) refl
  where
    absent : (o : Option (List ℕ)) → is_some o ≡ false → Some n.name ≡ or_other o (Some n.name)
    absent None e = refl
    absent (Some t) e = cc

    of : (t : Bool) → nat_eq n.body b ≡ t → cond t (Some n.name) (old b) ≡ or_other (old b) (if t then Some n.name else None)
    of true e = absent (old b) (ap (λ k. is_some (old k)) (sym (eqb-true n.body b e)) ∙ none)
    of false e = sym (other_none (old b))

pub name_kept : (n : Bounds) (b : ℕ) (old : ℕ → Option (List ℕ)) → is_some (old n.body) ≡ true → old b ≡ or_other (old b) (name_at n b)
name_kept n b old there = of (nat_eq n.body b) refl
  where
    present : (o : Option (List ℕ)) → is_some o ≡ true → o ≡ or_other o (Some n.name)
    present None e = cc
    present (Some t) e = refl

    of : (t : Bool) → nat_eq n.body b ≡ t → old b ≡ or_other (old b) (if t then Some n.name else None)
    of true e = present (old b) (ap (λ k. is_some (old k)) (sym (eqb-true n.body b e)) ∙ there)
    of false e = sym (other_none (old b))
