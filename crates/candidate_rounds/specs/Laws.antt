pub mod StopKinds
