-- The plan of padded images: what a plan says of images, said of them once they are padded.
use Rattle.std.specs.Prelude.{ℕ, false, ◌+◌, ◌-◌, nat_le, if◌then◌else◌, List, [], ◌∷◌, map}
use Rattle.landmark_rules.specs.Groups.{mark_place}
use Rattle.landmark_rules.specs.declared.marks.Group.{Group}
use Rattle.landmark_rules.specs.declared.marks.Mark.{Mark}
use Rattle.image_padding.specs.Padded.{greatest_base, padding}
use Rattle.search_plan.specs.declared.plan.Plan.{Plan}

-- each length that has a base grows by what the base lacks of `greatest`
abbrev pub lengths_to : ℕ → List ℕ → List ℕ → List ℕ
lengths_to greatest [] lengths = lengths
lengths_to greatest (base ∷ bases) [] = []
lengths_to greatest (base ∷ bases) (n ∷ lengths) = (greatest - base + n) ∷ lengths_to greatest bases lengths

-- the mark, as far into its image as the padding puts it
abbrev pub padded_mark : List ℕ → Mark → Mark
padded_mark bases mark = record mark { sector = padding bases mark.image + mark.sector }

-- a mark, put before the first of the marks that it is not behind
unfoldable pub with_mark : Mark → List Mark → List Mark
with_mark mark [] = mark ∷ []
with_mark mark (first ∷ marks) = if nat_le (mark_place mark) (mark_place first) then mark ∷ first ∷ marks else first ∷ with_mark mark marks

-- marks in order of their sectors, and on one sector of their images
unfoldable pub in_order : List Mark → List Mark
in_order [] = []
in_order (mark ∷ marks) = with_mark mark (in_order marks)

-- the marks of a group, each padded with its image, in their order
abbrev pub padded_marks : List ℕ → List Mark → List Mark
padded_marks bases marks = in_order (map (padded_mark bases) marks)

-- the group
abbrev pub padded_group : List ℕ → Group → Group
padded_group bases group = record group { marks = padded_marks bases group.marks }

-- the plan: each length grows by the padding of its image, each mark is padded with its image, and all images have a common offset
-- then. All else is as it was
abbrev pub padded_plan : List ℕ → Plan → Plan
padded_plan bases plan = record plan {
  lengths = record { items = lengths_to (greatest_base bases) bases plan.lengths.items };
  groups = map (padded_group bases) plan.groups;
  each = false;
}
