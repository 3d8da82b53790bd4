-- Whose the variables of a skeleton are, and which skeletons may stand beside each other.
use Rattle.std.specs.Prelude.{ℕ, Bool, true, false}
use Rattle.qual_base.specs.declared.places.Owner.{Owner}
use Rattle.qual_types.specs.Skel.{Skel, flat, ref, fun, Skels, no_skels, more_skels}
use Rattle.flow_rules.specs.Owners.{IsIn}

-- All variables of a skeleton, that of further arguments aside, belong to an owner or to nobody.
abbrev mutual
  -- all variables of a skeleton belong to an owner
  pub Belongs : (ℕ → Owner) → Owner → Skel → Type 0
  Belongs own owner (flat v k) = IsIn own owner v
  Belongs own owner (ref v s) = IsIn own owner v × Belongs own owner s
  Belongs own owner (fun v ps r e) = IsIn own owner v × AllBelong own owner ps × Belongs own owner r

  -- all variables of some skeletons do
  pub AllBelong : (ℕ → Owner) → Owner → Skels → Type 0
  AllBelong own owner no_skels = Unit {0}
  AllBelong own owner (more_skels s ss) = Belongs own owner s × AllBelong own owner ss

-- no function stands in it
abbrev pub HasNoFun : Skel → Type 0
HasNoFun (flat v k) = Unit {0}
HasNoFun (ref v s) = HasNoFun s
HasNoFun (fun v ps r e) = ⊥

-- what may stand beside a skeleton that is no reference, where that is allowed: references alone
abbrev pub MayDiffer : Bool → Skel → Type 0
MayDiffer true s = HasNoFun s
MayDiffer false s = ⊥

-- Two skeletons whose values are of one kind, both references or both not, and whose cells are alike: what a `void *`
-- refers to may be beside a reference. The parameters and results of functions are of one kind.
abbrev mutual
  -- both are flat, or both are references to contents that are alike
  pub IsEven : Bool → Skel → Skel → Type 0
  IsEven loose (flat u k) (flat v l) = Unit {0}
  IsEven loose (flat u k) (ref v b) = ⊥
  IsEven loose (flat u k) (fun v qs s f) = ⊥
  IsEven loose (ref u a) (flat v l) = ⊥
  IsEven loose (ref u a) (ref v b) = IsAlike loose a b
  IsEven loose (ref u a) (fun v qs s f) = ⊥
  IsEven loose (fun u ps r e) b = ⊥

  -- contents are alike: flat, references to alike contents, or functions with even parts; where that is loose, one flat and one that may differ
  pub IsAlike : Bool → Skel → Skel → Type 0
  IsAlike loose (flat u k) (flat v l) = Unit {0}
  IsAlike loose (flat u k) (ref v b) = MayDiffer loose b
  IsAlike loose (flat u k) (fun v qs s f) = ⊥
  IsAlike loose (ref u a) (flat v l) = MayDiffer loose a
  IsAlike loose (ref u a) (ref v b) = IsAlike loose a b
  IsAlike loose (ref u a) (fun v qs s f) = ⊥
  IsAlike loose (fun u ps r e) (flat v l) = ⊥
  IsAlike loose (fun u ps r e) (ref v b) = ⊥
  IsAlike loose (fun u ps r e) (fun v qs s f) = AreEven loose ps qs × IsEven loose r s

  -- the parts of two functions are even, pair by pair
  pub AreEven : Bool → Skels → Skels → Type 0
  AreEven loose no_skels no_skels = Unit {0}
  AreEven loose no_skels (more_skels q qs) = ⊥
  AreEven loose (more_skels p ps) no_skels = ⊥
  AreEven loose (more_skels p ps) (more_skels q qs) = IsEven loose p q × AreEven loose ps qs

-- a number made of an address, or an address of a number
abbrev pub IsTurned : Skel → Skel → Type 0
IsTurned (flat u k) (flat v l) = ⊥
IsTurned (flat u k) (ref v b) = Unit {0}
IsTurned (flat u k) (fun v qs s f) = ⊥
IsTurned (ref u a) (flat v l) = Unit {0}
IsTurned (ref u a) (ref v b) = ⊥
IsTurned (ref u a) (fun v qs s f) = ⊥
IsTurned (fun u ps r e) b = ⊥
