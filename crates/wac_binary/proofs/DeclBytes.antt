-- The bytes of declarations.
use Rattle.std.proofs.Common.{◌≡◌, List, [], ◌∷◌, ◌++◌, refl, ap}
use Rattle.std.specs.List.{flat_map}
use Rattle.wac_binary.specs.Items.{Decl, decls}
use Rattle.wac_binary.specs.Bytes.{decl_bytes, decls_bytes}

pub bytes_all : (ds : List Decl) → decls_bytes (decls ds) ≡ flat_map decl_bytes ds
bytes_all [] = refl
bytes_all (d ∷ ds) = ap (λ t. decl_bytes d ++ t) (bytes_all ds)
