-- Images, after their letters.
use Rattle.std.proofs.Common.{refl}
use Rattle.wy_image.specs.BodyLaws.{body_kind}
use Rattle.wy_image.specs.GrantLaws.{grant_kind}
use Rattle.wy_image.specs.InstanceLaws.{instance_kind}
use Rattle.wy_image.specs.MainLaws.{main_kind}
use Rattle.wy_image.specs.ScopeLaws.{scope_kind}
use Rattle.wy_image.specs.SignatureLaws.{signature_kind}
use Rattle.wy_image.specs.Spelled.{IsImageSpelled, image_bytes}
use Rattle.wy_image.specs.declared.file.ImageFile.{ImageFile}
use Rattle.wy_spelling.specs.Kinds.{Kind, Shape, list_of, pair_of, shaped, text_kind}

-- the parts, in the order of their bytes
abbrev pub image_parts : Kind
image_parts =
    pair_of (list_of text_kind)
    (pair_of (list_of grant_kind)
    (pair_of (list_of text_kind)
    (pair_of (list_of (list_of signature_kind))
    (pair_of (list_of body_kind)
    (pair_of (list_of scope_kind)
    (pair_of (list_of instance_kind) main_kind))))))

-- the whole of its parts
abbrev pub image_of : image_parts.Value → ImageFile
image_of p = record {
  files = p.0;
  grants = p.1.0;
  methods = p.1.1.0;
  types = p.1.1.1.0;
  bodies = p.1.1.1.1.0;
  scopes = p.1.1.1.1.1.0;
  instances = p.1.1.1.1.1.1.0;
  main = p.1.1.1.1.1.1.1;
}

-- the whole and its parts have the same bytes
abbrev pub image_shape : Shape
image_shape = record {
  parts = image_parts;
  Value = ImageFile;
  IsSpelled = IsImageSpelled;
  bytes_of = image_bytes;
  whole = image_of;
  parted = λ s. (s.files, (s.grants, (s.methods, (s.types, (s.bodies, (s.scopes, (s.instances, s.main)))))));
  is = record {
    back = λ s. refl;
    whole_spelled = λ p is. is;
    whole_bytes = λ p. refl;
    parts_spelled = λ s is. is;
    parts_bytes = λ s. refl;
  };
}

-- the kind
abbrev pub image_kind : Kind
image_kind = shaped image_shape
