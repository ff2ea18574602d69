pub mod GalleryLemmas
