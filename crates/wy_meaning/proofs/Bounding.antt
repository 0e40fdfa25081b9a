-- The recursion that bounds events says the same as the statement on each deed.
use Rattle.std.proofs.Common.{◌≡◌, List, [], ◌∷◌, ◌++◌, All, Contains, refl, ap, subst}
use Rattle.wy_text.specs.declared.fault.AtomName.{AtomName}
use Rattle.wy_device.specs.declared.deed.Deed.{Deed as DeedRecord}
use Rattle.wy_device.specs.declared.deed.Event.{Event}
use Rattle.wy_device.specs.declared.deed.Event.TheVariants.{Enter, Deed, Leave}
use Rattle.wy_meaning.specs.Bounds.{Call, atom_of, BoundedFrom}
use Rattle.wy_meaning.specs.OpenCalls.{open_after, IsSaidOfEachDeed, BoundsBeginnings}

module _ (authority : Call → List AtomName) where
  -- every one of these calls allows the deed
  abbrev Allow : List Call → DeedRecord → Type 0
  Allow calls deed = All (λ call. Contains (authority call) (atom_of deed)) calls

  abbrev EachFrom : List Call → List Event → Type 0
  EachFrom calls events = (before after : List Event) (deed : DeedRecord) → events ≡ before ++ Deed deed ∷ after → Allow (open_after calls before) deed

  -- the bound on events that end in a deed and some more is a bound on the deed
  at_split : (calls : List Call) (before after : List Event) (deed : DeedRecord) → BoundedFrom authority calls (before ++ Deed deed ∷ after) → Allow (open_after calls before) deed
  at_split calls [] after deed h = h.0
  at_split calls (Enter i b ∷ before) after deed h = at_split (record { instance = i; body = b } ∷ calls) before after deed h
  at_split calls (Deed d ∷ before) after deed h = at_split calls before after deed h.1
  at_split [] (Leave ∷ before) after deed h = at_split [] before after deed h
  at_split (call ∷ calls) (Leave ∷ before) after deed h = at_split calls before after deed h

  at_each : (calls : List Call) (events : List Event) → BoundedFrom authority calls events → EachFrom calls events
  at_each calls events h before after deed e = at_split calls before after deed (subst (λ (events : List Event). BoundedFrom authority calls events) e h)

  from_each : (calls : List Call) (events : List Event) → EachFrom calls events → BoundedFrom authority calls events
  from_each calls [] h = tt
  from_each calls (Enter i b ∷ events) h =
      from_each (record { instance = i; body = b } ∷ calls) events (λ before after deed e. h (Enter i b ∷ before) after deed (ap (λ (events : List Event). Enter i b ∷ events) e))
  from_each calls (Deed d ∷ events) h =
      (h [] events d refl, from_each calls events (λ before after deed e. h (Deed d ∷ before) after deed (ap (λ (events : List Event). Deed d ∷ events) e)))
  from_each [] (Leave ∷ events) h = from_each [] events (λ before after deed e. h (Leave ∷ before) after deed (ap (λ (events : List Event). Leave ∷ events) e))
  from_each (call ∷ calls) (Leave ∷ events) h =
      from_each calls events (λ before after deed e. h (Leave ∷ before) after deed (ap (λ (events : List Event). Leave ∷ events) e))

  pub said_of_each_deed : (events : List Event) → IsSaidOfEachDeed authority events
  said_of_each_deed events = (at_each [] events, from_each [] events)

  beginning : (calls : List Call) (before after : List Event) → BoundedFrom authority calls (before ++ after) → BoundedFrom authority calls before
  beginning calls [] after h = tt
  beginning calls (Enter i b ∷ before) after h = beginning (record { instance = i; body = b } ∷ calls) before after h
  beginning calls (Deed d ∷ before) after h = (h.0, beginning calls before after h.1)
  beginning [] (Leave ∷ before) after h = beginning [] before after h
  beginning (call ∷ calls) (Leave ∷ before) after h = beginning calls before after h

  pub bounds_beginnings : BoundsBeginnings authority
  bounds_beginnings before after h = beginning [] before after h
