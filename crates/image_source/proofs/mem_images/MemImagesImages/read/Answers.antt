use Rattle.std.proofs.Common.{◌≡◌, ◌<◌, ◌+◌, ◌/◌, ◌≤◌, ℕ, List, length, get_or, map, subst, sym, ap, arith}
use Rattle.std.proofs.lemmas.List.Elements.{All-get_or}
use Rattle.image_source.specs.MemFile.{named_bytes}
use Rattle.image_source.specs.Memory.{bytes_of}
use Rattle.image_source.specs.contracts.mem_images.MemImages.{the_view}
use Rattle.image_source.proofs.Shelves.{bytes_found, found, told_in}
use Rattle.image_source.proofs.mem_images.MemImagesImages.read.Goals as goal

pub index-file-requires : goal.index-file-requires
index-file-requires c =
    let at : c.args.image < length c.self.inside.attached.items
    = (found (the_view c.self.inside) c.args.self.now c.args.image (c.args.sector + length c.args.to.now / 512) c.self.view_is c.requires.inside).0 in
    omega arith

pub bytes_at-requires : goal.bytes_at-requires
bytes_at-requires c =
    let at : c.args.image < length c.self.inside.attached.items
    = (found (the_view c.self.inside) c.args.self.now c.args.image (c.args.sector + length c.args.to.now / 512) c.self.view_is c.requires.inside).0 in
    let below = All-get_or (λ k. k < length c.self.inside.files.items) c.self.inside.attached.items c.args.image c.index-file.result.now at c.self.invariant.1 in
    let same = ap length c.deref-2.ensures.value in
    omega arith

pub copy_sectors-requires-clause-inside : goal.copy_sectors-requires-clause-inside
copy_sectors-requires-clause-inside c =
    let both = found (the_view c.self.inside) c.args.self.now c.args.image (c.args.sector + length c.args.to.now / 512) c.self.view_is c.requires.inside in
    let bytes : c.bytes_at.result.now ≡ bytes_of (map named_bytes c.self.inside.files.items) (get_or c.self.inside.attached.items c.args.image 0)
    = bytes_found c.self.inside.files.items c.deref-2.result.now c.self.inside.attached.items c.args.image c.index-file.result.now c.bytes_at.result.now both.0 c.bytes_at.ensures c.deref-2.ensures.value c.index-file.ensures in
    subst (λ (bs : List ℕ). c.args.sector + length c.args.to.now / 512 ≤ length bs / 512) (sym bytes) both.1

pub returns-clause-told : goal.returns-clause-told
returns-clause-told c =
    let both = found (the_view c.self.inside) c.args.self.now c.args.image (c.args.sector + length c.args.to.now / 512) c.self.view_is c.requires.inside in
    let bytes : c.bytes_at.result.now ≡ bytes_of (map named_bytes c.self.inside.files.items) (get_or c.self.inside.attached.items c.args.image 0)
    = bytes_found c.self.inside.files.items c.deref-2.result.now c.self.inside.attached.items c.args.image c.index-file.result.now c.bytes_at.result.now both.0 c.bytes_at.ensures c.deref-2.ensures.value c.index-file.ensures in
    told_in (the_view c.self.inside) c.args.self.now c.args.image c.args.sector c.copy_sectors.new.to c.bytes_at.result.now c.self.view_is bytes c.copy_sectors.ensures
