use Rattle.std.proofs.Common.{◌≡◌, ◌++◌, ◌^◌, ◌<◌, ◌≤◌, ℕ, IfSome, List, Ok, map, refl, rules, subst}
use Rattle.std.proofs.lemmas.List.Elements.{All-same}
use Rattle.mft_survey.specs.Records.{tables_in, whole_records}
use Rattle.outside.specs.Attached.{told_all}
use Rattle.survey_engine.specs.Origins.{headers_of, origins_of, AreOrigins}
use Rattle.survey_engine.specs.Sizing.{all_sized}
use Rattle.survey_engine.specs.Surveys.{found_in}
use Rattle.survey_engine.specs.Owners.{groups_of}
use Rattle.survey_engine.specs.Sightings.{AreSightings}
use Rattle.outside.specs.Seen.{lengths_of}
use Rattle.survey_engine.specs.Telling.{bare, told}
use Rattle.survey_engine.specs.Tables.{boots_of, groups_by, records_of, AreRecords}
use Rattle.survey_engine.proofs.Firsts.{headers_are}
use Rattle.survey_engine.proofs.Told.{none_of_records, none_read, none_sized, survey_read, sweep_read}
use Rattle.survey_engine.proofs.TableLaw.{adds_all, are_all, on_ok}
use Rattle.survey_engine.proofs.Leaves.{are_alike}
use Rattle.survey_engine.proofs.Lengths.{are_lengths, are_short, reach_end}
use Rattle.survey_engine.proofs.planning.survey.Goals as goal

pub origins-requires-clause-short : goal.origins-requires-clause-short
origins-requires-clause-short g c =
    All-same (λ n. n < 2 ^ 55) c.deref-3.result.now (lengths_of (g.I.Images.seen c.args.images.now).attached) (search rules) (are_short (g.I.Images.seen c.args.images.now).attached c.requires.short)

pub origins-requires-clause-found : goal.origins-requires-clause-found
origins-requires-clause-found g c =
    let are : AreSightings c.deref-3.result.now c.deref-2.result.now = search rules in
    rw c.headers_of-headers.ensures (headers_are c.args.ask.now.kinds.gpt c.deref-3.result.now c.deref-2.result.now are)

pub read_tables-requires-clause-short : goal.read_tables-requires-clause-short
read_tables-requires-clause-short g c =
    All-same (λ n. n < 2 ^ 55) c.deref-4.result.now (lengths_of (g.I.Images.seen c.args.images.now).attached) (search rules) (are_short (g.I.Images.seen c.args.images.now).attached c.requires.short)

pub size_inodes-requires-clause-short : goal.size_inodes-requires-clause-short
size_inodes-requires-clause-short g c =
    All-same (λ n. n < 2 ^ 55) c.deref-6.result.now (lengths_of (g.I.Images.seen c.args.images.now).attached) (search rules) (are_short (g.I.Images.seen c.args.images.now).attached c.requires.short)

pub tell-requires-clause-found : goal.tell-requires-clause-found
tell-requires-clause-found g c =
    let alike : map bare c.size_inodes.new.found ≡ map bare c.in_ok-found.found.items = search rules in
    are_alike c.deref-7.result.now c.in_ok-found.found.items c.size_inodes.new.found alike (search rules)

pub tell-requires-clause-short : goal.tell-requires-clause-short
tell-requires-clause-short g c =
    All-same (λ n. n < 2 ^ 55) c.deref-7.result.now (lengths_of (g.I.Images.seen c.args.images.now).attached) (search rules) (are_short (g.I.Images.seen c.args.images.now).attached c.requires.short)

pub returns-clause-plan : goal.returns-clause-plan
returns-clause-plan g c =
    let attached = (g.I.Images.seen c.args.images.now).attached in
    let lengths : c.lengths-lengths.result.items ≡ lengths_of attached = search rules in
    let made : c.add_tables.new.groups ≡ groups_of c.args.ask.now.kinds c.tell.new.found ++ groups_by c.in_ok-records.records.whole c.in_ok-records.records.tables = search rules in
    let tables : AreRecords c.deref.result.now c.in_ok-records.records = search rules in
    let same : c.deref.result.now ≡ c.lengths-lengths.result.items = search rules in
    let last : c.deref-7.result.now ≡ c.deref.result.now = search rules in
    let ok : c.tell.result ≡ Ok c.in_ok-map_err-2.field-0 = search rules in
    let after : AreSightings c.deref-7.result.now c.tell.new.found = on_ok (AreSightings c.deref-7.result.now c.tell.new.found) c.tell.result c.in_ok-map_err-2.field-0 ok c.tell.ensures.sightings in
    let are : AreSightings c.deref.result.now c.tell.new.found = subst (λ (ns : List ℕ). AreSightings ns c.tell.new.found) last after in
    let origins : AreOrigins c.in_ok-origins.origins.items = search rules in
    record {
      lengths = rw lengths (are_lengths attached c.requires.some c.requires.most c.requires.short);
      ends = All-same (λ n. c.args.ask.now.end ≤ n) c.lengths-lengths.result.items (lengths_of attached) lengths (reach_end attached c.args.ask.now.end c.requires.long);
      bounds = rw c.copy_of_bounds.ensures c.requires.ask_is.bounds;
      limits = c.requires.ask_is.limits;
      tests = record { origins = origins.rising; few_origins = origins.few; near_origins = origins.near; misfits = c.requires.ask_is.tests.misfits; least = c.requires.ask_is.tests.least };
      each = λ e. rw (lengths, c.copy_of_bounds.ensures) (c.requires.each e);
      groups = rw made (rw (← same) (are_all c.deref.result.now c.args.ask.now.kinds c.tell.new.found c.in_ok-records.records are tables));
    }

pub returns-clause-adds : goal.returns-clause-adds
returns-clause-adds g c =
    let attached = (g.I.Images.seen c.args.images.now).attached in
    let lengths = c.lengths-lengths.result.items in
    let kinds = c.args.ask.now.kinds in
    let found = c.in_ok-found.found.items in
    let made : c.add_tables.new.groups ≡ groups_of kinds c.tell.new.found ++ groups_by c.in_ok-records.records.whole c.in_ok-records.records.tables = search rules in
    let are : lengths ≡ lengths_of attached = search rules in
    let is : IfSome (told_all attached) (λ images. found ≡ found_in c.args.ask.now attached images) = search rules in
    let whole : IfSome (told_all attached) (λ images. c.in_ok-records.records.whole ≡ whole_records lengths images (records_of kinds.mft found)) = search rules in
    let tables : IfSome (told_all attached) (λ images. c.in_ok-records.records.tables ≡ tables_in lengths images (boots_of found) (records_of kinds.mft found)) = search rules in
    let size : IfSome (told_all attached) (λ images. c.size_inodes.new.found ≡ all_sized kinds.xfs5 lengths images found) = search rules in
    let tells : IfSome (told_all attached) (λ images. c.tell.new.found ≡ told kinds lengths images c.size_inodes.new.found) = search rules in
    let origins : IfSome (told_all attached) (λ images. c.in_ok-origins.origins.items ≡ origins_of c.args.ask.now.tests.origins.items lengths images (headers_of kinds.gpt found)) = search rules in
    adds_all (told_all attached) c.args.ask.now attached lengths found c.size_inodes.new.found c.tell.new.found c.in_ok-records.records _ made are is whole tables size tells origins

pub returns-clause-reads : goal.returns-clause-reads
returns-clause-reads g c =
    let are : AreSightings c.deref.result.now c.in_ok-found.found.items = search rules in
    let alike : map bare c.size_inodes.new.found ≡ map bare c.in_ok-found.found.items = search rules in
    survey_read (g.I.Images.seen c.args.images.now) (g.I.Images.seen c.gather.new.images) (g.I.Images.seen c.origins.new.images) (g.I.Images.seen c.read_tables.new.images) (g.I.Images.seen c.size_inodes.new.images) (g.I.Images.seen c.tell.new.images) c.args.ask.now c.lengths-lengths.result.items c.in_ok-found.found.items c.size_inodes.new.found
    (search rules) (search rules) are.few alike (search rules) (search rules) (search rules) (search rules) (search rules)

pub returns-in_err-found-clause-reads : goal.returns-in_err-found-clause-reads
returns-in_err-found-clause-reads g c = sweep_read (g.I.Images.seen c.args.images.now) (g.I.Images.seen c.gather.new.images) c.args.ask.now (search rules)

pub returns-in_err-origins-clause-reads : goal.returns-in_err-origins-clause-reads
returns-in_err-origins-clause-reads g c =
    let are : AreSightings c.deref.result.now c.in_ok-found.found.items = search rules in
    let there = g.I.Images.seen c.origins.new.images in
    survey_read (g.I.Images.seen c.args.images.now) (g.I.Images.seen c.gather.new.images) there there there there c.args.ask.now c.lengths-lengths.result.items c.in_ok-found.found.items c.in_ok-found.found.items
    (search rules) (search rules) are.few refl (search rules) (search rules) (none_of_records there c.args.ask.now.kinds.mft c.lengths-lengths.result.items c.in_ok-found.found.items) (none_sized there c.args.ask.now.kinds.xfs5 c.lengths-lengths.result.items c.in_ok-found.found.items) (none_read there c.args.ask.now.kinds c.lengths-lengths.result.items c.in_ok-found.found.items)

pub returns-in_err-records-clause-reads : goal.returns-in_err-records-clause-reads
returns-in_err-records-clause-reads g c =
    let are : AreSightings c.deref.result.now c.in_ok-found.found.items = search rules in
    let there = g.I.Images.seen c.read_tables.new.images in
    survey_read (g.I.Images.seen c.args.images.now) (g.I.Images.seen c.gather.new.images) (g.I.Images.seen c.origins.new.images) there there there c.args.ask.now c.lengths-lengths.result.items c.in_ok-found.found.items c.in_ok-found.found.items
    (search rules) (search rules) are.few refl (search rules) (search rules) (search rules) (none_sized there c.args.ask.now.kinds.xfs5 c.lengths-lengths.result.items c.in_ok-found.found.items) (none_read there c.args.ask.now.kinds c.lengths-lengths.result.items c.in_ok-found.found.items)

pub returns-in_err-map_err-clause-reads : goal.returns-in_err-map_err-clause-reads
returns-in_err-map_err-clause-reads g c =
    let are : AreSightings c.deref.result.now c.in_ok-found.found.items = search rules in
    let there = g.I.Images.seen c.size_inodes.new.images in
    survey_read (g.I.Images.seen c.args.images.now) (g.I.Images.seen c.gather.new.images) (g.I.Images.seen c.origins.new.images) (g.I.Images.seen c.read_tables.new.images) there there c.args.ask.now c.lengths-lengths.result.items c.in_ok-found.found.items c.in_ok-found.found.items
    (search rules) (search rules) are.few refl (search rules) (search rules) (search rules) (search rules) (none_read there c.args.ask.now.kinds c.lengths-lengths.result.items c.in_ok-found.found.items)

pub returns-in_err-map_err-2-clause-reads : goal.returns-in_err-map_err-2-clause-reads
returns-in_err-map_err-2-clause-reads g c =
    let are : AreSightings c.deref.result.now c.in_ok-found.found.items = search rules in
    let alike : map bare c.size_inodes.new.found ≡ map bare c.in_ok-found.found.items = search rules in
    survey_read (g.I.Images.seen c.args.images.now) (g.I.Images.seen c.gather.new.images) (g.I.Images.seen c.origins.new.images) (g.I.Images.seen c.read_tables.new.images) (g.I.Images.seen c.size_inodes.new.images) (g.I.Images.seen c.tell.new.images) c.args.ask.now c.lengths-lengths.result.items c.in_ok-found.found.items c.size_inodes.new.found
    (search rules) (search rules) are.few alike (search rules) (search rules) (search rules) (search rules) (search rules)

pub returns-in_err-groups-clause-reads : goal.returns-in_err-groups-clause-reads
returns-in_err-groups-clause-reads g c =
    let are : AreSightings c.deref.result.now c.in_ok-found.found.items = search rules in
    let alike : map bare c.size_inodes.new.found ≡ map bare c.in_ok-found.found.items = search rules in
    survey_read (g.I.Images.seen c.args.images.now) (g.I.Images.seen c.gather.new.images) (g.I.Images.seen c.origins.new.images) (g.I.Images.seen c.read_tables.new.images) (g.I.Images.seen c.size_inodes.new.images) (g.I.Images.seen c.tell.new.images) c.args.ask.now c.lengths-lengths.result.items c.in_ok-found.found.items c.size_inodes.new.found
    (search rules) (search rules) are.few alike (search rules) (search rules) (search rules) (search rules) (search rules)

pub returns-in_err-map_err-3-clause-reads : goal.returns-in_err-map_err-3-clause-reads
returns-in_err-map_err-3-clause-reads g c =
    let are : AreSightings c.deref.result.now c.in_ok-found.found.items = search rules in
    let alike : map bare c.size_inodes.new.found ≡ map bare c.in_ok-found.found.items = search rules in
    survey_read (g.I.Images.seen c.args.images.now) (g.I.Images.seen c.gather.new.images) (g.I.Images.seen c.origins.new.images) (g.I.Images.seen c.read_tables.new.images) (g.I.Images.seen c.size_inodes.new.images) (g.I.Images.seen c.tell.new.images) c.args.ask.now c.lengths-lengths.result.items c.in_ok-found.found.items c.size_inodes.new.found
    (search rules) (search rules) are.few alike (search rules) (search rules) (search rules) (search rules) (search rules)
