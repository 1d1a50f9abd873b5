use Rattle.std.proofs.Common.{◌≡◌, ◌<◌, ◌++◌, ◌∷◌, [], All, length, map, rules}
use Rattle.std.proofs.lemmas.List.{length-map, map-append}
use Rattle.image_source.specs.declared.mem_images.MemFile.{MemFile}
use Rattle.image_source.specs.MemFile.{named_bytes}
use Rattle.image_source.proofs.Shelves.{kept}
use Rattle.image_source.proofs.mem_images.MemImages.add.Goals as goal

pub returns-clause-attached : goal.returns-clause-attached
returns-clause-attached c =
    let files = c.self.inside.files.items in
    let file : MemFile = record { name = c.in_ok-name.name; bytes = c.in_ok-bytes.bytes } in
    let items : c.push.new.self.items ≡ files ++ file ∷ [] = search rules in
    let below : All (λ k. k < length (map named_bytes files)) c.self.inside.attached.items = rw (length-map files named_bytes) c.self.invariant.1 in
    rw (← c.self.view_is, items, map-append named_bytes files (file ∷ [])) (kept (map named_bytes files) (named_bytes file) c.self.inside.attached.items below)
