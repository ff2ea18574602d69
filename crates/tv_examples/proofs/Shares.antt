-- tools/examples writes these modules from cases/share-*: don't edit them
mod Share01
mod Share02
mod Share03
mod Share04
mod Share05
mod Share06
mod Share07
mod Share08
