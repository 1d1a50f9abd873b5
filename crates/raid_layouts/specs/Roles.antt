-- The role that a value of the code stands for.
use Rattle.raid_terms.specs.Role.{Role, Item, P as RoleP, Q as RoleQ}
use Rattle.raid_layouts.specs.declared.roles.SlotRole.{SlotRole}
use Rattle.raid_layouts.specs.declared.roles.SlotRole.TheVariants.{Block, P, Q}

-- P and Q stand for the roles of these names, and Block i for item i
abbrev pub meant : SlotRole → Role
meant (Block i) = Item i
meant P = RoleP
meant Q = RoleQ
